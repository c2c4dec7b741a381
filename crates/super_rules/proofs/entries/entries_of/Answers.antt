use Rattle.std.proofs.Common.{◌++◌, map, true, false, [], subst, sym}
use Rattle.java_tree.specs.View.{unit_plain}
use Rattle.type_names.specs.Tables.{files_in}
use Rattle.super_rules.specs.Looks.{AreEntries}
use Rattle.super_rules.proofs.Files.{entries_none, both_parts, stand_first, stand_behind}
use Rattle.super_rules.proofs.entries.entries_of.Goals as goal

pub returns : goal.returns
returns c = λ java stands.
    let us = files_in true (map unit_plain c.args.user.now) in
    let ls = files_in false (map unit_plain c.args.lib.now) in
    let fs = us ++ ls in
    let types = c.args.types.now in
    let begin = subst (λ es. AreEntries java fs types es []) (sym c.new-entries.ensures.items) (entries_none java fs types) in
    let first = c.in_ok-push_units.ensures java fs [] stands (stand_first us ls) begin in
    subst (AreEntries java fs types c.push_units-2.new.entries.items) (both_parts c.args.user.now c.args.lib.now true false)
    (c.in_ok-push_units-2.ensures java fs _ stands (stand_behind true c.args.user.now ls) first)

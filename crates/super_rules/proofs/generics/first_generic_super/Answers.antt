use Rattle.std.proofs.Common.{map, subst, sym}
use Rattle.java_tree.specs.View.{unit_plain}
use Rattle.type_names.specs.Known.{files_of}
use Rattle.super_rules.specs.Rules.{IsGenericAbove}
use Rattle.super_rules.specs.Looks.{AreFlags}
use Rattle.super_rules.proofs.Files.{has_entries}
use Rattle.super_rules.proofs.generics.first_generic_super.Goals as goal

pub returns : goal.returns
returns c = λ java built nineteen stands are.
    let fs = files_of (map unit_plain c.args.user.now) (map unit_plain c.args.lib.now) in
    let types = c.args.types.now in
    let es = c.in_ok-entries.entries.items in
    let known = c.in_ok-entries.ensures java stands in
    let has = has_entries java fs types built es c.as_slice.result.now c.as_slice.ensures.value nineteen are known in
    let again = has_entries java fs types built es c.as_slice-2.result.now c.as_slice-2.ensures.value nineteen are known in
    let flags = subst (λ bs. AreFlags bs (IsGenericAbove java fs types)) (sym c.as_slice-3.ensures.value) (c.in_ok-generic.ensures java fs has) in
    c.first_among.ensures java fs types again.entries flags

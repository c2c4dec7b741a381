use Rattle.std.proofs.Common.{true, false, map, ap, ◌∙◌, None}
use Rattle.java_tree.specs.View.{unit_plain}
use Rattle.class_world.specs.declared.world.World.{World}
use Rattle.type_names.specs.Known.{files_of}
use Rattle.type_names.specs.Tables.{files_in}
use Rattle.type_headers.specs.Declared.{place_of}
use Rattle.program_world.proofs.Adding.{world_made}
use Rattle.program_world.proofs.Walking.{both_passed, front_from, behind_from, as_many}
use Rattle.program_world.proofs.types.declared_world.Goals as goal

pub returns : goal.returns
returns c = λ j size stands heads.
    let built = c.args.built in
    let us = files_in true (map unit_plain c.args.user.now) in
    let ls = files_in false (map unit_plain c.args.lib.now) in
    let fs = files_of (map unit_plain c.args.user.now) (map unit_plain c.args.lib.now) in
    let first : World = record { types = built.types; methods = built.methods; fields = built.fields; walk = None; above = c.new.result } in
    let users = c.in_ok-number.ensures ∙ as_many true c.args.user.now in
    world_made built j fs c.args.types.now first c.push_files-2.new.world size heads
    (ap {B = World} (λ above. record { types = built.types; methods = built.methods; fields = built.fields; walk = None; above = above }) c.new.ensures)
    (both_passed (place_of j fs c.args.types.now) us ls c.in_ok-number.field-0 first c.push_files.new.world c.push_files-2.new.world users
    (c.in_ok-push_files.ensures j fs stands (front_from us ls))
    (c.in_ok-push_files-2.ensures j fs stands (behind_from us ls c.in_ok-number.field-0 users)))

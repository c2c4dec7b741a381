use Rattle.std.specs.Option.{option_map}
use Rattle.std.proofs.Common.{ap, sym, ◌∙◌}
use Rattle.java_core.specs.View.{plain}
use Rattle.extract_constraints.specs.Told.{where_of}
use Rattle.extract_constraints.specs.Links as li
use Rattle.marked_types.proofs.Forms.{ok_as}
use Rattle.extract_constraints.proofs.program.in_field.Goals as goal

pub returns-in-Some : goal.returns-in-Some
returns-in-Some c =
    λ k told.
    let a = where_of c.args.at.now in
    ok_as c.field_value.result _ _
    (ap (λ o. li.field_value k a o (plain c.in-Some.x) c.args.links) c.field.ensures ∙ sym (ap (λ o. li.in_field k a c.args.field (option_map plain o) c.args.links) c.in-Some.is))
    (c.field_value.ensures k told)

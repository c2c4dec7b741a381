use Rattle.std.proofs.Common.{ap, map, sym, ◌∙◌}
use Rattle.java_core.specs.View.{field_plain, member_plain}
use Rattle.extract_constraints.specs.Told.{where_of}
use Rattle.extract_constraints.specs.Links as li
use Rattle.marked_types.proofs.Forms.{ok_as}
use Rattle.extract_constraints.proofs.program.in_member.Goals as goal

pub returns-in-Fields : goal.returns-in-Fields
returns-in-Fields c =
    λ k told.
    let a = where_of c.args.at.now in
    ok_as c.in_fields.result _ _
    (ap (λ xs. li.in_fields k a (map field_plain xs) c.args.links) c.as_slice.ensures ∙ sym (ap (λ x. li.in_member k a (member_plain x) c.args.links) c.in-Fields.is))
    (c.in_fields.ensures k told)

pub returns-in-Method : goal.returns-in-Method
returns-in-Method c =
    λ k told.
    let a = where_of c.args.at.now in
    ok_as c.in_method.result _ _
    (sym (ap (λ x. li.in_member k a (member_plain x) c.args.links) c.in-Method.is))
    (c.in_method.ensures k told)

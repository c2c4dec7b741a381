use Rattle.std.proofs.Common.{map, sym, ap, ◌∙◌}
use Rattle.java_core.specs.View.{field_plain, member_plain}
use Rattle.thrown_exceptions.proofs.Steps.{ok_as}
use Rattle.type_constraints.specs.Asked.{asked}
use Rattle.type_constraints.specs.Constraints as co
use Rattle.type_constraints.proofs.program.in_member.Goals as goal

pub returns-in-Fields : goal.returns-in-Fields
returns-in-Fields c =
    λ f are ts ties.
    let a = asked c.args.at.now f ts in
    ok_as c.in_fields.result _ _
    (ap (λ xs. co.in_fields a (map field_plain xs) c.args.first) c.as_slice.ensures ∙ sym (ap (λ x. co.in_member a (member_plain x) c.args.first) c.in-Fields.is))
    (c.in_fields.ensures f are ts ties)

pub returns-in-Method : goal.returns-in-Method
returns-in-Method c =
    λ f are ts ties.
    let a = asked c.args.at.now f ts in
    ok_as c.in_method.result _ _
    (sym (ap (λ x. co.in_member a (member_plain x) c.args.first) c.in-Method.is))
    (c.in_method.ensures f are ts ties)

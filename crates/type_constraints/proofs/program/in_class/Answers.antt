use Rattle.std.proofs.Common.{map, ap}
use Rattle.java_core.specs.View.{member_plain}
use Rattle.thrown_exceptions.proofs.Steps.{ok_as}
use Rattle.type_constraints.specs.Asked.{asked}
use Rattle.type_constraints.specs.Constraints as co
use Rattle.type_constraints.proofs.program.in_class.Goals as goal

pub returns : goal.returns
returns c =
    λ f are ts ties.
    let a = asked c.args.at.now f ts in
    ok_as c.in_members.result _ _
    (ap (λ xs. co.in_members (co.in_class_of a c.args.class.now.number) (map member_plain xs) c.args.first) c.as_slice.ensures)
    (c.in_members.ensures f are ts ties)

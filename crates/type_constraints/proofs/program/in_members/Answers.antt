use Rattle.std.proofs.Common.{map, refl}
use Rattle.java_core.specs.View.{member_plain}
use Rattle.thrown_exceptions.proofs.Steps.{step}
use Rattle.type_constraints.specs.Asked.{asked}
use Rattle.type_constraints.specs.Constraints as co
use Rattle.type_constraints.proofs.Steps.{ended}
use Rattle.type_constraints.proofs.program.in_members.Goals as goal

pub loop-member-preserved : goal.loop-member-preserved
loop-member-preserved c =
    λ f are ts ties.
    let a = asked c.args.at.now f ts in
    step (λ xs s. co.in_members a (map member_plain xs) s) (λ x s. co.in_member a (member_plain x) s) (λ x xs s. refl)
    c.args.members.now c.loop-member.member-index c.member-item.result c.loop-member.first c.in_ok-first.first _ c.loop-member-test.true c.member-item.is
    (c.in_ok-first.ensures f are ts ties) (c.loop-member.invariant f are ts ties)

pub returns : goal.returns
returns c =
    λ f are ts ties.
    let a = asked c.args.at.now f ts in
    ended (λ xs s. co.in_members a (map member_plain xs) s) (λ s. refl) c.args.members.now c.loop-member.member-index c.loop-member.first _ c.loop-member-test.false (c.loop-member.invariant f are ts ties)

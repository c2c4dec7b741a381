use Rattle.std.proofs.Common.{map, refl}
use Rattle.java_core.specs.View.{member_plain}
use Rattle.definite_assignment.specs.Bodies as spec
use Rattle.definite_assignment.proofs.Steps.{step}
use Rattle.definite_assignment.proofs.members.in_members.Goals as goal

pub loop-member-preserved : goal.loop-member-preserved
loop-member-preserved c =
    step (λ xs. spec.in_members c.args.w.now c.args.blanks.now (map member_plain xs)) (λ x. spec.in_member c.args.w.now c.args.blanks.now (member_plain x)) (λ x xs s. refl) c.args.members.now c.loop-member.member-index c.member-item.result c.loop-member.first c.in_member.new.first _
    c.loop-member-test.true c.member-item.is (c.in_ok-in_member.ensures {u = tt}) c.loop-member.invariant

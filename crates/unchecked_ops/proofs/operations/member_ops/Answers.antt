use Rattle.std.proofs.Common.{map, refl}
use Rattle.java_core.specs.View.{member_plain}
use Rattle.unchecked_ops.specs.Operations as spec
use Rattle.unchecked_ops.proofs.Steps.{step}
use Rattle.unchecked_ops.proofs.operations.member_ops.Goals as goal

pub loop-member-preserved : goal.loop-member-preserved
loop-member-preserved c =
    λ f d u m. step (λ i xs. spec.member_ops f u c.args.own.now c.args.above.now (map member_plain xs)) (λ i x. spec.one_member f u c.args.own.now c.args.above.now (member_plain x)) (λ i x xs. refl)
    c.args.members.now c.loop-member.member-index c.member-item.result c.loop-member.out c.one_member.new.out _ c.loop-member-test.true c.member-item.is
    (c.in_ok-one_member.ensures {u = tt} f d u m) (c.loop-member.invariant f d u m)

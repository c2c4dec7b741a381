use Rattle.std.proofs.Common.{map, refl}
use Rattle.java_tree.specs.View.{member_plain}
use Rattle.node_places.specs.Seek as seek
use Rattle.node_places.proofs.Turns.{passed, found}
use Rattle.node_places.proofs.members.in_members.Goals as goal

pub returns-in_err-in_member : goal.returns-in_err-in_member
returns-in_err-in_member c =
    rw c.from_residual.ensures
    (found (λ xs. seek.members c.args.number (map member_plain xs)) (λ x. seek.member c.args.number (member_plain x)) (λ x xs. refl) c.args.ms.now c.loop-m.m-index c.m-item.result c.in_err-in_member.field-0.0
    (rw (← c.as_slice-m-items.ensures) c.loop-m-test.true) (rw (← c.as_slice-m-items.ensures) c.m-item.is) (rw c.in_err-in_member.was at c.in_member.ensures) c.loop-m.invariant)

pub loop-m-preserved : goal.loop-m-preserved
loop-m-preserved c =
    passed (λ xs. seek.members c.args.number (map member_plain xs)) (λ x. seek.member c.args.number (member_plain x)) (λ x xs. refl) c.args.ms.now c.loop-m.m-index c.m-item.result
    (rw (← c.as_slice-m-items.ensures) c.loop-m-test.true) (rw (← c.as_slice-m-items.ensures) c.m-item.is) (rw c.in_ok-in_member.was at c.in_member.ensures) c.loop-m.invariant

use Rattle.std.proofs.Common.{map, refl}
use Rattle.java_core.specs.View.{member_plain}
use Rattle.class_places.proofs.Steps.{step}
use Rattle.type_constraints.proofs.Steps.{ended}
use Rattle.extract_constraints.specs.Told.{where_of}
use Rattle.extract_constraints.specs.Links as li
use Rattle.extract_constraints.proofs.program.in_members.Goals as goal

pub loop-member-preserved : goal.loop-member-preserved
loop-member-preserved c =
    λ k told.
    let a = where_of c.args.at.now in
    step (λ xs s. li.in_members k a (map member_plain xs) s) (λ x s. li.in_member k a (member_plain x) s) (λ x xs s. refl)
    c.args.members.now c.loop-member.member-index c.member-item.result c.loop-member.links c.in_ok-links.links _ c.loop-member-test.true c.member-item.is
    (c.in_ok-links.ensures k told) (c.loop-member.invariant k told)

pub returns : goal.returns
returns c =
    λ k told.
    let a = where_of c.args.at.now in
    ended (λ xs s. li.in_members k a (map member_plain xs) s) (λ s. refl) c.args.members.now c.loop-member.member-index c.loop-member.links _ c.loop-member-test.false (c.loop-member.invariant k told)

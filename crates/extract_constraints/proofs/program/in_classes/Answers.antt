use Rattle.std.proofs.Common.{map, refl}
use Rattle.java_core.specs.View.{class_plain, member_plain}
use Rattle.class_places.proofs.Steps.{step}
use Rattle.type_constraints.proofs.Steps.{ended}
use Rattle.extract_constraints.specs.Told.{where_of}
use Rattle.extract_constraints.specs.Links as li
use Rattle.extract_constraints.proofs.program.in_classes.Goals as goal

pub loop-class-preserved : goal.loop-class-preserved
loop-class-preserved c =
    λ k told.
    let a = where_of c.args.at.now in
    step (λ xs s. li.in_classes k a (map class_plain xs) s) (λ x s. li.in_members k (li.in_class_of a x.number) (map member_plain x.members) s) (λ x xs s. refl)
    c.args.classes.now c.loop-class.class-index c.class-item.result c.loop-class.links c.in_ok-links.links _ c.loop-class-test.true c.class-item.is
    (c.in_ok-links.ensures k told) (c.loop-class.invariant k told)

pub returns : goal.returns
returns c =
    λ k told.
    let a = where_of c.args.at.now in
    ended (λ xs s. li.in_classes k a (map class_plain xs) s) (λ s. refl) c.args.classes.now c.loop-class.class-index c.loop-class.links _ c.loop-class-test.false (c.loop-class.invariant k told)

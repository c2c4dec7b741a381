use Rattle.std.proofs.Common.{map, refl}
use Rattle.java_core.specs.View.{class_plain, member_plain}
use Rattle.thrown_exceptions.proofs.Steps.{step}
use Rattle.type_constraints.specs.Asked.{asked}
use Rattle.type_constraints.specs.Constraints as co
use Rattle.type_constraints.proofs.Steps.{ended}
use Rattle.type_constraints.proofs.program.in_classes.Goals as goal

pub loop-class-preserved : goal.loop-class-preserved
loop-class-preserved c =
    λ f are ts ties.
    let a = asked c.args.at.now f ts in
    step (λ xs s. co.in_classes a (map class_plain xs) s) (λ x s. co.in_members (co.in_class_of a x.number) (map member_plain x.members) s) (λ x xs s. refl)
    c.args.classes.now c.loop-class.class-index c.class-item.result c.loop-class.first c.in_ok-first.first _ c.loop-class-test.true c.class-item.is
    (c.in_ok-first.ensures f are ts ties) (c.loop-class.invariant f are ts ties)

pub returns : goal.returns
returns c =
    λ f are ts ties.
    let a = asked c.args.at.now f ts in
    ended (λ xs s. co.in_classes a (map class_plain xs) s) (λ s. refl) c.args.classes.now c.loop-class.class-index c.loop-class.first _ c.loop-class-test.false (c.loop-class.invariant f are ts ties)

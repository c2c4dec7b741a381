use Rattle.std.proofs.Common.{map, refl}
use Rattle.java_core.specs.View.{class_plain}
use Rattle.unchecked_ops.specs.Programs as spec
use Rattle.unchecked_ops.proofs.Steps.{step}
use Rattle.unchecked_ops.proofs.program.classes_ops.Goals as goal

pub loop-class-preserved : goal.loop-class-preserved
loop-class-preserved c =
    λ f d u m. step (λ i xs. spec.classes_ops f u (map class_plain xs)) (λ i x. spec.class_ops f u (class_plain x)) (λ i x xs. refl)
    c.args.classes.now c.loop-class.class-index c.class-item.result c.loop-class.out c.class_ops.new.out _ c.loop-class-test.true c.class-item.is
    (c.in_ok-class_ops.ensures {u = tt} f d u m) (c.loop-class.invariant f d u m)

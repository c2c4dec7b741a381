use Rattle.std.proofs.Common.{refl}
use Rattle.java_core.specs.View.{plain, plains}
use Rattle.class_places.proofs.Heights.{height, heights}
use Rattle.class_places.proofs.Steps.{lower}
use Rattle.class_places.proofs.exprs.+value.Goals as goal

pub values-value-requires : goal.values-value-requires
values-value-requires t c =
    (rw (← c.decreases) (lower (λ x. height (plain x)) (λ xs. heights (plains xs)) (λ x xs. refl) c.args.xs.now c.loop-x.x-index c.x-item.result c.loop-x-test.true c.x-item.is), tt)

use Rattle.std.proofs.Common.{map, refl}
use Rattle.java_core.specs.View.{field_plain}
use Rattle.unchecked_ops.specs.Operations as spec
use Rattle.type_kinds.specs.Members.{field_at}
use Rattle.unchecked_ops.proofs.Steps.{step}
use Rattle.unchecked_ops.proofs.operations.field_ops.Goals as goal

pub loop-x-preserved : goal.loop-x-preserved
loop-x-preserved c =
    λ f d u m. step (λ i xs. spec.field_ops f u c.args.above.now (map field_plain xs))
    (λ i x. spec.value_ops f u c.args.above.now (spec.field_type (field_at f.world (field_plain x).field)) (field_plain x).init) (λ i x xs. refl)
    c.args.vars.now c.loop-x.x-index c.x-item.result c.loop-x.out c.value_ops.new.out _ c.loop-x-test.true c.x-item.is (c.in_ok-value_ops.ensures {u = tt} f d u m)
    (c.loop-x.invariant f d u m)

use Rattle.std.proofs.Common.{Some, map, refl}
use Rattle.std.specs.Option.{option_map}
use Rattle.java_core.specs.declared.stmt.CoreVar.{CoreVar}
use Rattle.java_core.specs.View.{plain, var_plain}
use Rattle.unchecked_ops.specs.Operations as spec
use Rattle.unchecked_ops.proofs.Steps.{step}
use Rattle.unchecked_ops.proofs.stmts.var_ops.Goals as goal

pub loop-var-preserved : goal.loop-var-preserved
loop-var-preserved c =
    λ f d u m. step (λ i xs. spec.var_ops f u c.args.above.now (map var_plain xs)) (λ i (x : CoreVar). spec.value_ops f u c.args.above.now (Some x.ty) (option_map plain x.init)) (λ i x xs. refl)
    c.args.vars.now c.loop-var.var-index c.var-item.result c.loop-var.out c.init_ops.new.out _ c.loop-var-test.true c.var-item.is (c.in_ok-init_ops.ensures {u = tt} f d u m)
    (c.loop-var.invariant f d u m)

use Rattle.std.proofs.Common.{map, refl}
use Rattle.std.specs.Option.{option_map}
use Rattle.java_core.specs.declared.stmt.CoreVar.{CoreVar}
use Rattle.java_core.specs.View.{plain, var_plain}
use Rattle.definite_assignment.specs.Bodies as spec
use Rattle.definite_assignment.proofs.Steps.{step}
use Rattle.definite_assignment.proofs.locals.vars_given.Goals as goal

pub loop-var-preserved : goal.loop-var-preserved
loop-var-preserved c =
    step (λ xs. spec.vars_given c.args.w.now c.args.is_final (map var_plain xs)) (λ (x : CoreVar). spec.var_given c.args.w.now c.args.is_final (var_plain x) (option_map plain x.init)) (λ x xs s. refl) c.args.vars.now c.loop-var.var-index c.var-item.result c.loop-var.s c.var_given.new.s _
    c.loop-var-test.true c.var-item.is (c.in_ok-var_given.ensures {u = tt}) c.loop-var.invariant

use Rattle.std.proofs.Common.{map, refl}
use Rattle.java_core.specs.declared.stmt.CoreVar.{CoreVar}
use Rattle.java_core.specs.View.{var_plain}
use Rattle.definite_assignment.specs.Variables.{either, with_one}
use Rattle.definite_assignment.specs.declared.state.Variable.TheVariants as v
use Rattle.definite_assignment.specs.Bodies as spec
use Rattle.definite_assignment.proofs.Steps.{step}
use Rattle.definite_assignment.proofs.locals.add_slots.Goals as goal

pub loop-var-preserved : goal.loop-var-preserved
loop-var-preserved c =
    step (λ vs xs. either xs (spec.slots_of (map var_plain vs))) (λ (x : CoreVar) xs. with_one xs (v.Local x.slot)) (λ x vs xs. refl) c.args.vars.now c.loop-var.var-index c.var-item.result c.loop-var.xs c.add.new.xs _
    c.loop-var-test.true c.var-item.is (c.in_ok-add.ensures {u = tt}) c.loop-var.invariant

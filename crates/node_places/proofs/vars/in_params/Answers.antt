use Rattle.std.proofs.Common.{map, refl}
use Rattle.java_tree.specs.View.{param_plain}
use Rattle.node_places.specs.Seek as seek
use Rattle.node_places.proofs.Turns.{passed, found}
use Rattle.node_places.proofs.vars.in_params.Goals as goal

pub returns-in_err-in_param : goal.returns-in_err-in_param
returns-in_err-in_param c =
    rw c.from_residual.ensures
    (found (λ xs. seek.params c.args.number (map param_plain xs)) (λ x. seek.param c.args.number (param_plain x)) (λ x xs. refl) c.args.ps.now c.loop-p.p-index c.p-item.result c.in_err-in_param.field-0.0
    (rw (← c.as_slice-p-items.ensures) c.loop-p-test.true) (rw (← c.as_slice-p-items.ensures) c.p-item.is) (rw c.in_err-in_param.was at c.in_param.ensures) c.loop-p.invariant)

pub loop-p-preserved : goal.loop-p-preserved
loop-p-preserved c =
    passed (λ xs. seek.params c.args.number (map param_plain xs)) (λ x. seek.param c.args.number (param_plain x)) (λ x xs. refl) c.args.ps.now c.loop-p.p-index c.p-item.result
    (rw (← c.as_slice-p-items.ensures) c.loop-p-test.true) (rw (← c.as_slice-p-items.ensures) c.p-item.is) (rw c.in_ok-in_param.was at c.in_param.ensures) c.loop-p.invariant

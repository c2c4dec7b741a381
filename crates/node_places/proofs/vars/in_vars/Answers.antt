use Rattle.std.proofs.Common.{map, refl}
use Rattle.java_tree.specs.View.{var_plain}
use Rattle.node_places.specs.Seek as seek
use Rattle.node_places.proofs.Turns.{passed, found}
use Rattle.node_places.proofs.vars.in_vars.Goals as goal

pub returns-in_err-in_var : goal.returns-in_err-in_var
returns-in_err-in_var c =
    rw c.from_residual.ensures
    (found (λ xs. seek.vars c.args.number (map var_plain xs)) (λ x. seek.var c.args.number (var_plain x)) (λ x xs. refl) c.args.vs.now c.loop-v.v-index c.v-item.result c.in_err-in_var.field-0.0
    (rw (← c.as_slice-v-items.ensures) c.loop-v-test.true) (rw (← c.as_slice-v-items.ensures) c.v-item.is) (rw c.in_err-in_var.was at c.in_var.ensures) c.loop-v.invariant)

pub loop-v-preserved : goal.loop-v-preserved
loop-v-preserved c =
    passed (λ xs. seek.vars c.args.number (map var_plain xs)) (λ x. seek.var c.args.number (var_plain x)) (λ x xs. refl) c.args.vs.now c.loop-v.v-index c.v-item.result
    (rw (← c.as_slice-v-items.ensures) c.loop-v-test.true) (rw (← c.as_slice-v-items.ensures) c.v-item.is) (rw c.in_ok-in_var.was at c.in_var.ensures) c.loop-v.invariant

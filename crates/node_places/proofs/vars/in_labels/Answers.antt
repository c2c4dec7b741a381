use Rattle.std.specs.Option.{option_map}
use Rattle.std.proofs.Common.{map, refl}
use Rattle.java_tree.specs.View.{plain}
use Rattle.node_places.specs.Seek as seek
use Rattle.node_places.proofs.Turns.{passed, found}
use Rattle.node_places.proofs.vars.in_labels.Goals as goal

pub returns-in_err-in_init : goal.returns-in_err-in_init
returns-in_err-in_init c =
    rw c.from_residual.ensures
    (found (λ xs. seek.labels c.args.number (map (option_map plain) xs)) (λ x. seek.init c.args.number (option_map plain x)) (λ x xs. refl) c.args.es.now c.loop-e.e-index c.e-item.result c.in_err-in_init.field-0.0
    (rw (← c.as_slice-e-items.ensures) c.loop-e-test.true) (rw (← c.as_slice-e-items.ensures) c.e-item.is) (rw c.in_err-in_init.was at c.in_init.ensures) c.loop-e.invariant)

pub loop-e-preserved : goal.loop-e-preserved
loop-e-preserved c =
    passed (λ xs. seek.labels c.args.number (map (option_map plain) xs)) (λ x. seek.init c.args.number (option_map plain x)) (λ x xs. refl) c.args.es.now c.loop-e.e-index c.e-item.result
    (rw (← c.as_slice-e-items.ensures) c.loop-e-test.true) (rw (← c.as_slice-e-items.ensures) c.e-item.is) (rw c.in_ok-in_init.was at c.in_init.ensures) c.loop-e.invariant

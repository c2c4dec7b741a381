use Rattle.std.proofs.Common.{map, refl, arith}
use Rattle.java_tree.specs.View as view
use Rattle.java_tree.specs.View.{type_plain}
use Rattle.tree_numbers.specs.Sizes as size
use Rattle.node_places.specs.Seek as seek
use Rattle.node_places.proofs.Turns.{passed, found, size_in}
use Rattle.node_places.proofs.types.+types.Goals as goal

pub in_types-in_type-requires : goal.in_types-in_type-requires
in_types-in_type-requires t c =
    let inside = size_in (λ xs. size.types (view.types (map type_plain xs))) (λ x. size.type (type_plain x)) c.args.xs.now c.loop-x.x-index c.x-item.result (λ x xs. refl) (rw (← c.as_slice-x-items.ensures) c.loop-x-test.true) (rw (← c.as_slice-x-items.ensures) c.x-item.is) in
    (rw (← c.decreases) (omega (arith, inside)), tt)

pub in_types-returns-in_err-in_type : goal.in_types-returns-in_err-in_type
in_types-returns-in_err-in_type t c =
    rw c.from_residual.ensures
    (found (λ xs. seek.types c.args.number (view.types (map type_plain xs))) (λ x. seek.type c.args.number (type_plain x)) (λ x xs. refl) c.args.xs.now c.loop-x.x-index c.x-item.result c.in_err-in_type.field-0.0
    (rw (← c.as_slice-x-items.ensures) c.loop-x-test.true) (rw (← c.as_slice-x-items.ensures) c.x-item.is) (rw c.in_err-in_type.was at c.in_type.ensures) c.loop-x.invariant)

pub in_types-loop-x-preserved : goal.in_types-loop-x-preserved
in_types-loop-x-preserved t c =
    passed (λ xs. seek.types c.args.number (view.types (map type_plain xs))) (λ x. seek.type c.args.number (type_plain x)) (λ x xs. refl) c.args.xs.now c.loop-x.x-index c.x-item.result
    (rw (← c.as_slice-x-items.ensures) c.loop-x-test.true) (rw (← c.as_slice-x-items.ensures) c.x-item.is) (rw c.in_ok-in_type.was at c.in_type.ensures) c.loop-x.invariant

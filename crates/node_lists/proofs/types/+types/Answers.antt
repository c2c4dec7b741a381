use Rattle.std.proofs.Common.{map, refl, arith}
use Rattle.java_tree.specs.View as view
use Rattle.java_tree.specs.View.{type_plain}
use Rattle.tree_numbers.specs.Sizes as size
use Rattle.node_places.proofs.Turns.{size_in}
use Rattle.node_lists.proofs.types.+types.Goals as goal

pub in_types-in_type-requires : goal.in_types-in_type-requires
in_types-in_type-requires t c =
    let inside = size_in (λ xs. size.types (view.types (map type_plain xs))) (λ x. size.type (type_plain x)) c.args.xs.now c.loop-x.x-index c.x-item.result (λ x xs. refl) (rw (← c.as_slice-x-items.ensures) c.loop-x-test.true) (rw (← c.as_slice-x-items.ensures) c.x-item.is) in
    (rw (← c.decreases) (omega (arith, inside)), tt)

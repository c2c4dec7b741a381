-- Each call of arrays_of on the way down has fewer sizes. Arrays so far stand before those that are still to be made.
use Rattle.std.proofs.Common.{◌≡◌, ◌+◌, ◌-◌, ◌*◌, length}
use Rattle.core_meaning.specs.Expressions as spec
use Rattle.run_state.proofs.Repeats.{behind}
use Rattle.run_state.proofs.arrays.+arrays.Given as goal

abbrev pub decreases-arrays_of : goal.decreases-arrays_of
decreases-arrays_of l = 3 * length l.sizes.now

abbrev pub decreases-array_of : goal.decreases-array_of
decreases-array_of l = 3 * length l.inner.now + 2

abbrev pub decreases-repeated : goal.decreases-repeated
decreases-repeated l = 3 * length l.sizes.now + 1

abbrev pub invariant-repeated-loop-made : goal.invariant-repeated-loop-made
invariant-repeated-loop-made l =
    spec.repeated l.size (spec.arrays_of l.sizes l.t) l.initial.state ≡ behind l.items (spec.repeated (l.size - l._made) (spec.arrays_of l.sizes l.t) l.state)

-- The slot ends as it would before more slots were made.
use Rattle.std.proofs.Common.{◌≡◌, ◌+◌, ◌-◌, length}
use Rattle.core_meaning.specs.State.{with_slot}
use Rattle.run_state.proofs.frames.set_slot.Given as goal

abbrev pub invariant-loop-slots : goal.invariant-loop-slots
invariant-loop-slots l = with_slot l.at l.value l.slots ≡ with_slot l.at l.value l.initial.slots

abbrev pub decreases-loop-slots : goal.decreases-loop-slots
decreases-loop-slots l = l.at + 1 - length l.slots

-- The flags end as they would before more were made.
use Rattle.std.proofs.Common.{◌≡◌, ◌+◌, ◌-◌, length}
use Rattle.type_places.specs.Changing.{with_flag}
use Rattle.type_places.proofs.changing.set_flag.Given as goal

abbrev pub invariant-loop-flags : goal.invariant-loop-flags
invariant-loop-flags l = with_flag l.number l.flags ≡ with_flag l.number l.initial.flags

abbrev pub decreases-loop-flags : goal.decreases-loop-flags
decreases-loop-flags l = l.number + 1 - length l.flags

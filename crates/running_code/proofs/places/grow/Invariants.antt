use Rattle.std.proofs.Common.{◌≡◌, ◌-◌, ◌+◌, ℕ, length}
use Rattle.running_code.specs.Places.{place_at}
use Rattle.running_code.proofs.places.grow.Given as goal

abbrev pub invariant-loop-row : goal.invariant-loop-row
invariant-loop-row l = (k : ℕ) → place_at l.row.items k ≡ place_at l.fn.row.items k

abbrev pub decreases-loop-row : goal.decreases-loop-row
decreases-loop-row l = l.at + 1 - length l.row.items

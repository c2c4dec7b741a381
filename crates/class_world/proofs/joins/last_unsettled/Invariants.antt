use Rattle.std.proofs.Common.{ℕ, ◌+◌, ◌/◌, ◌≤◌, length}
use Rattle.class_world.specs.Sound.{IsSet}
use Rattle.class_world.proofs.joins.last_unsettled.Given as goal

abbrev pub invariant-loop-at : goal.invariant-loop-at
invariant-loop-at l = (q : ℕ) → length l.words ≤ q / 64 + l.at → IsSet l.words q → IsSet l.others q → IsSet l.settled q

use Rattle.std.proofs.Common.{◌≡◌, ◌⊎◌, ℕ, ◌+◌, length}
use Rattle.override_rules.specs.Judged.{IsMarked, unmarked}
use Rattle.override_rules.proofs.Walks.{IsWalk}
use Rattle.override_rules.proofs.declared.lowest_above.Given as goal

abbrev pub invariant-loop-t : goal.invariant-loop-t
invariant-loop-t l = record {
  walk : IsWalk l.w l.info.owner l.m l.clean l.marks l.stamp l.stack.items l.lowest;
  others : (s k : ℕ) → IsMarked l.marks s k → (s ≡ l.stamp) ⊎ IsMarked l.fn.marks s k;
}

abbrev pub decreases-loop-t : goal.decreases-loop-t
decreases-loop-t l = unmarked l.stamp l.marks + length l.stack.items

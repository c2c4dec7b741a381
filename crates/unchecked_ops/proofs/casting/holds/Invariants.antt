use Rattle.std.proofs.Common.{ℕ, ◌<◌}
use Rattle.std.specs.Prelude.{IsTrue}
use Rattle.unchecked_ops.specs.Casting.{occurs}
use Rattle.unchecked_ops.proofs.casting.holds.Given as goal

abbrev pub invariant-loop-k : goal.invariant-loop-k
invariant-loop-k l = (k : ℕ) → k < l.k → IsTrue (occurs k l.t)

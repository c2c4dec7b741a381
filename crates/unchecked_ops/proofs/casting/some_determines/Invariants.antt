use Rattle.std.proofs.Common.{ℕ, ◌<◌}
use Rattle.unchecked_ops.specs.Casting.{DeterminesBy}
use Rattle.unchecked_ops.proofs.casting.some_determines.Given as goal

abbrev pub invariant-loop-h : goal.invariant-loop-h
invariant-loop-h l = (k : ℕ) → k < l.h → DeterminesBy l.w l.s l.g l.args k → ⊥

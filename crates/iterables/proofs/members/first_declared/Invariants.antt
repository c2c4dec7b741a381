use Rattle.std.proofs.Common.{ℕ, ◌<◌}
use Rattle.iterables.specs.Told.{DeclaresNamed}
use Rattle.iterables.proofs.members.first_declared.Given as goal

abbrev pub invariant-loop-m : goal.invariant-loop-m
invariant-loop-m l = (k : ℕ) → k < l.m → DeclaresNamed l.w l.c l.name k → ⊥

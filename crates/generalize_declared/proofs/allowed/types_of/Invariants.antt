use Rattle.std.proofs.Common.{ℕ, ◌≤◌}
use Rattle.type_facts.specs.Facts.{Facts}
use Rattle.generalize_declared.specs.Allowed.{AreListed}
use Rattle.generalize_declared.specs.Plans.{AreSourceFacts}
use Rattle.generalize_declared.proofs.allowed.types_of.Given as goal

abbrev pub invariant-loop-number : goal.invariant-loop-number
invariant-loop-number l = (l.number ≤ l.count) × ((fs : ℕ → Facts) → AreSourceFacts l.q l.source fs → AreListed (fs 0) l.source l.home l.place l.interface l.number l.types)

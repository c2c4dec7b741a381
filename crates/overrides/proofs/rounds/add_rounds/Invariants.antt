use Rattle.std.proofs.Common.{◌≡◌, length}
use Rattle.overrides.specs.Rounds.{AreTaken, IsDerived}
use Rattle.overrides.proofs.Gaps.{left}
use Rattle.overrides.proofs.rounds.add_rounds.Given as goal

abbrev pub invariant-rounds : goal.invariant-rounds
invariant-rounds l = record {
  derived : IsDerived l.w l.table;
  size : length l.taken.items ≡ length l.links;
  taken : AreTaken l.w l.table l.links l.taken.items;
}

abbrev pub decreases-rounds : goal.decreases-rounds
decreases-rounds l = left l.table

use Rattle.override_rules.specs.Judged.{IsLowest}
use Rattle.override_rules.proofs.Judging.{PairOf}
use Rattle.override_rules.proofs.Numbers.{UpTo}
use Rattle.override_rules.proofs.inherited.lowest_met.Given as goal

abbrev pub invariant-loop-pair : goal.invariant-loop-pair
invariant-loop-pair l = IsLowest (UpTo l.pair-index (PairOf l.w l.c l.meetings)) l.lowest

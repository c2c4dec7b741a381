use Rattle.override_rules.proofs.Clauses.{NoneBefore}
use Rattle.override_rules.proofs.bits.have_common_bit.Given as goal

abbrev pub invariant-loop-at : goal.invariant-loop-at
invariant-loop-at l = NoneBefore l.a l.b l.at

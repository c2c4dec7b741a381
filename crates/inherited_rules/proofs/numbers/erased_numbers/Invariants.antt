use Rattle.inherited_rules.proofs.Numbering.{AreFirst}
use Rattle.inherited_rules.proofs.numbers.erased_numbers.Given as goal

abbrev pub invariant-loop-info : goal.invariant-loop-info
invariant-loop-info l = AreFirst l.w l.table l.numbers.items l.info-index

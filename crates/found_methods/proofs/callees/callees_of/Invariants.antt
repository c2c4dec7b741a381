use Rattle.signature_numbers.specs.Numbers.{AreApart}
use Rattle.found_methods.specs.Callees.{AreCalleesFirst}
use Rattle.found_methods.proofs.callees.callees_of.Given as goal

abbrev pub invariant-loop-info : goal.invariant-loop-info
invariant-loop-info l = record {
  apart : AreApart l.numbers;
  callees : AreCalleesFirst l.w l.numbers l.callees.items l.info-index;
}

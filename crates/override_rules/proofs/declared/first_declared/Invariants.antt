use Rattle.std.proofs.Common.{◌≡◌, length}
use Rattle.rule_order.specs.First.{IsFirst}
use Rattle.override_rules.specs.Judged.{AreClean, MethodBreaches}
use Rattle.override_rules.proofs.Firsts.{FirstOf, ItemOf}
use Rattle.override_rules.proofs.Walks.{AreEarlier}
use Rattle.override_rules.proofs.declared.first_declared.Given as goal

abbrev pub invariant-loop-at : goal.invariant-loop-at
invariant-loop-at l = record {
  clean : AreClean l.w l.clean.items;
  flags : length l.clean.items ≡ length l.w.methods;
  size : length l.marks.items ≡ length l.w.methods;
  marks : AreEarlier l.marks.items l.at (length l.methods);
  first : IsFirst (FirstOf l.at (ItemOf l.methods (MethodBreaches l.w))) l.first;
}

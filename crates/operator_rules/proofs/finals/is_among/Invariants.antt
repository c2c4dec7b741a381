use Rattle.std.proofs.Common.{◌≡◌, drop}
use Rattle.operator_rules.specs.Operators as spec
use Rattle.operator_rules.proofs.finals.is_among.Given as goal

abbrev pub invariant-loop-blank : goal.invariant-loop-blank
invariant-loop-blank l = spec.is_among l.field (drop l.blank-index l.blanks) ≡ spec.is_among l.field l.blanks

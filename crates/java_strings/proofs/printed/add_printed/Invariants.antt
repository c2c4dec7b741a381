use Rattle.std.proofs.Common.{◌≡◌, ◌++◌, length}
use Rattle.core_meaning.specs.Texts as spec
use Rattle.java_strings.proofs.printed.add_printed.Given as goal

abbrev pub invariant-loop-unit : goal.invariant-loop-unit
invariant-loop-unit l = l.to ++ spec.printed_bytes l.rest ≡ l.initial.to ++ spec.printed_bytes l.units

abbrev pub decreases-loop-unit : goal.decreases-loop-unit
decreases-loop-unit l = length l.rest

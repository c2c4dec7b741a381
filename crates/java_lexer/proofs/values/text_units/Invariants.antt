use Rattle.std.proofs.Common.{length, ◌≡◌, ◌++◌, drop}
use Rattle.java_lexer.specs.Values.{units}
use Rattle.java_lexer.proofs.values.text_units.Given as goal

abbrev pub invariant-loop-rest : goal.invariant-loop-rest
invariant-loop-rest l = units 0 (drop 1 l.fn.bytes) ≡ l.units ++ units 0 l.rest

abbrev pub decreases-loop-rest : goal.decreases-loop-rest
decreases-loop-rest l = length l.rest

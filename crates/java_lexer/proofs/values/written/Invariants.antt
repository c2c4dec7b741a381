use Rattle.std.proofs.Common.{length, ◌≡◌, ◌<◌, ◌^◌}
use Rattle.java_lexer.specs.Values.{written}
use Rattle.java_lexer.proofs.values.written.Given as goal

abbrev pub invariant-loop-rest : goal.invariant-loop-rest
invariant-loop-rest l = (written l.base 0 l.fn.digits ≡ written l.base l.n l.rest) × (l.n < 2 ^ 64)

abbrev pub decreases-loop-rest : goal.decreases-loop-rest
decreases-loop-rest l = length l.rest

use Rattle.std.proofs.Common.{length, ◌+◌, ◌≡◌}
use Rattle.java_lexer.specs.Scan.{more, closing}
use Rattle.java_lexer.proofs.first.closing.Given as goal

abbrev pub invariant-loop-rest : goal.invariant-loop-rest
invariant-loop-rest l = (closing l.fn.text ≡ more l.at (closing l.rest)) × (l.at + length l.rest ≡ length l.fn.text)

abbrev pub decreases-loop-rest : goal.decreases-loop-rest
decreases-loop-rest l = length l.rest

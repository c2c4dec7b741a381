use Rattle.std.proofs.Common.{length, ◌+◌, ◌≡◌}
use Rattle.java_lexer.specs.Scan.{more, quoted}
use Rattle.java_lexer.proofs.literal.quoted.Given as goal

abbrev pub invariant-loop-rest : goal.invariant-loop-rest
invariant-loop-rest l = (quoted l.fn.text ≡ more l.at (quoted l.rest)) × (l.at + length l.rest ≡ length l.fn.text)

abbrev pub decreases-loop-rest : goal.decreases-loop-rest
decreases-loop-rest l = length l.rest

use Rattle.std.proofs.Common.{length, ◌+◌, ◌≡◌, false}
use Rattle.java_lexer.specs.Scan.{more, first_escape}
use Rattle.java_lexer.proofs.encoding.first_escape.Given as goal

abbrev pub invariant-loop-rest : goal.invariant-loop-rest
invariant-loop-rest l = (first_escape false l.fn.text ≡ more l.at (first_escape l.odd l.rest)) × (l.at + length l.rest ≡ length l.fn.text)

abbrev pub decreases-loop-rest : goal.decreases-loop-rest
decreases-loop-rest l = length l.rest

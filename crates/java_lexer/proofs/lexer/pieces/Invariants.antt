use Rattle.std.proofs.Common.{length}
use Rattle.java_lexer.proofs.LexLemmas.{Read}
use Rattle.java_lexer.proofs.lexer.pieces.Given as goal

abbrev pub invariant-loop-rest : goal.invariant-loop-rest
invariant-loop-rest l = Read l.fn.text l.rest l.tokens l.at

abbrev pub decreases-loop-rest : goal.decreases-loop-rest
decreases-loop-rest l = length l.rest

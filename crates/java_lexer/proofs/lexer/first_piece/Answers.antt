use Rattle.java_lexer.proofs.FirstLemmas.{told_first}
use Rattle.java_lexer.proofs.lexer.first_piece.Goals as goal

pub returns-clause-told : goal.returns-clause-told
returns-clause-told c = rw c.first.ensures.value (told_first c.args.text.now)

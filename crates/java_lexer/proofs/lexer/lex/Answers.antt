use Rattle.java_lexer.proofs.LexLemmas.{only_tokens, only_fault}
use Rattle.java_lexer.proofs.lexer.lex.Goals as goal

pub returns-clause-only_tokens : goal.returns-clause-only_tokens
returns-clause-only_tokens c = only_tokens _ _ c.scanned.ensures

pub returns-clause-only_fault : goal.returns-clause-only_fault
returns-clause-only_fault c = only_fault _ _ c.scanned.ensures

use Rattle.java_lexer.proofs.TokenLemmas as laws
use Rattle.java_lexer.proofs.laws.one_lexing.Goals as goal

pub returns-clause-tokens : goal.returns-clause-tokens
returns-clause-tokens c = laws.one_tokens

pub returns-clause-fault : goal.returns-clause-fault
returns-clause-fault c = laws.one_fault

pub returns-clause-apart : goal.returns-clause-apart
returns-clause-apart c = laws.never_both

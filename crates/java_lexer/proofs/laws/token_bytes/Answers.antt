use Rattle.java_lexer.proofs.TokenLemmas as laws
use Rattle.java_lexer.proofs.laws.token_bytes.Goals as goal

pub returns : goal.returns
returns c = laws.token_bytes

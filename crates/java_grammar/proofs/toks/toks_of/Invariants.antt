use Rattle.java_grammar.proofs.Reading.{Reading}
use Rattle.java_grammar.proofs.toks.toks_of.Given as goal

abbrev pub invariant-loop-token : goal.invariant-loop-token
invariant-loop-token l = Reading l.text l.tokens l.token-index l.toks l.initial.names l.names

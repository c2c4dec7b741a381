use Rattle.java_grammar.proofs.Reading.{one_toks, as_many, toks_kept}
use Rattle.java_grammar.proofs.laws.one_list_of_tokens.Goals as goal

pub returns : goal.returns
returns c = record {
  one = λ text names xs ts us d. one_toks text names d xs ts us;
  as_many = as_many;
  kept = λ text old new xs ts front. toks_kept text old new front xs ts;
}

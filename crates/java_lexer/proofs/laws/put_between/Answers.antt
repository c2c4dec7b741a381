use Rattle.java_lexer.proofs.WordLemmas.{word_between, words_between, space_between}
use Rattle.java_lexer.proofs.laws.put_between.Goals as goal

pub returns-clause-word : goal.returns-clause-word
returns-clause-word c = word_between

pub returns-clause-words : goal.returns-clause-words
returns-clause-words c = words_between

pub returns-clause-space : goal.returns-clause-space
returns-clause-space c = space_between

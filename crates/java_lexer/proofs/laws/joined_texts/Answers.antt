use Rattle.java_lexer.proofs.CutLemmas.{joined, spliced}
use Rattle.java_lexer.proofs.WordLemmas.{stop_follows, start_follows}
use Rattle.java_lexer.proofs.laws.joined_texts.Goals as goal

pub returns-clause-joined : goal.returns-clause-joined
returns-clause-joined c = joined

pub returns-clause-spliced : goal.returns-clause-spliced
returns-clause-spliced c = spliced

pub returns-clause-stop : goal.returns-clause-stop
returns-clause-stop c = stop_follows

pub returns-clause-start : goal.returns-clause-start
returns-clause-start c = start_follows

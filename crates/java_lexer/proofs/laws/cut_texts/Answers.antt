use Rattle.std.proofs.Common.{add-one}
use Rattle.java_lexer.proofs.CutLemmas as laws
use Rattle.java_lexer.proofs.laws.cut_texts.Goals as goal

pub returns-clause-whole : goal.returns-clause-whole
returns-clause-whole c = laws.cut_lexes

pub returns-clause-at : goal.returns-clause-at
returns-clause-at c = laws.cut_at

pub returns-clause-behind : goal.returns-clause-behind
returns-clause-behind c = λ text ts l i t e. rw add-one (laws.cut_behind text ts l i t e)

pub returns-clause-start : goal.returns-clause-start
returns-clause-start c = laws.cut_start

pub returns-clause-end : goal.returns-clause-end
returns-clause-end c = laws.cut_end

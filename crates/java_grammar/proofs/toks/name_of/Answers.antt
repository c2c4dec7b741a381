use Rattle.std.proofs.Common.{subst, sym}
use Rattle.java_tree.specs.Names.{AreDistinct}
use Rattle.java_tree.proofs.Tables.{with_text_distinct}
use Rattle.java_grammar.proofs.toks.name_of.Goals as goal

pub returns-in_ok-name-in-Word-clause-distinct : goal.returns-in_ok-name-in-Word-clause-distinct
returns-in_ok-name-in-Word-clause-distinct c = λ d. subst AreDistinct (sym c.in_ok-name-in-Word.ensures.table) (with_text_distinct c.args.word.now c.args.names.now d)

use Rattle.java_tree.proofs.Tables.{found, absent}
use Rattle.java_tree.proofs.names.Names.find.Goals as goal

pub returns-in_err-at-clause-absent : goal.returns-in_err-at-clause-absent
returns-in_err-at-clause-absent c = λ _ n. rw (← c.self.view_is) ((absent c.args.text.now c.self.inside.texts.keys c.in_err-at.ensures.index).never n)

pub returns-clause-found : goal.returns-clause-found
returns-clause-found c = rw (← c.self.view_is) (found c.args.text.now c.self.inside.texts.keys c.in_ok-at.at c.in_ok-at.ensures.index).given

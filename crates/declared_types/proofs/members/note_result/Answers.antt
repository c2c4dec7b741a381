use Rattle.java_tree.specs.View.{type_plain}
use Rattle.rule_order.proofs.Lists.{some_none}
use Rattle.written_types.specs.Breaks.{IllNamed}
use Rattle.declared_types.proofs.Lists.{some_one}
use Rattle.declared_types.proofs.members.note_result.Goals as goal

pub returns-in-None : goal.returns-in-None
returns-in-None c = λ p at. rw c.in-None.is (some_none (IllNamed p) c.args.first)

pub returns-in-Some : goal.returns-in-Some
returns-in-Some c = λ p at. rw c.in-Some.is (some_one (IllNamed p) (type_plain c.in-Some.x) c.args.first c.note_type.result (c.note_type.ensures p at))

use Rattle.java_tree.specs.View.{type_plain}
use Rattle.written_types.specs.Breaks.{IllNamed}
use Rattle.declared_types.proofs.Lists.{adds_first}
use Rattle.declared_types.proofs.members.note_type.Goals as goal

pub returns : goal.returns
returns c = λ p at. adds_first (IllNamed p (type_plain c.args.x.now)) c.args.first c.first_ill_named.result c.earlier.result c.earlier.ensures (c.first_ill_named.ensures p at)

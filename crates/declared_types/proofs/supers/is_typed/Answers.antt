use Rattle.java_tree.specs.View.{type_plain}
use Rattle.declared_types.proofs.Deciding.{typed_test}
use Rattle.declared_types.proofs.supers.is_typed.Goals as goal

pub returns : goal.returns
returns c = λ p at. typed_test p (type_plain c.args.x.now) c.first_ill_named.result c.is_none.result (c.first_ill_named.ensures p at) c.is_none.ensures

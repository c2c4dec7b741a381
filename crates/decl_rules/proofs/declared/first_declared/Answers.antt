use Rattle.std.proofs.lemmas.Result.{IfOk-weaker}
use Rattle.java_tree.specs.View.{unit_plain}
use Rattle.decl_rules.proofs.Declaring.{declared_first}
use Rattle.decl_rules.proofs.declared.first_declared.Goals as goal

pub returns : goal.returns
returns c = IfOk-weaker c.look_at_types.result _ _ (declared_first (unit_plain c.args.unit.now)) c.look_at_types.ensures

use Rattle.std.proofs.Common.{map, take}
use Rattle.java_tree.specs.View.{param_plain}
use Rattle.rule_order.specs.Noted.{SomeOf, Adds}
use Rattle.written_types.specs.Places.{Place, IsPlace}
use Rattle.written_types.specs.Breaks.{IllNamed}
use Rattle.declared_types.proofs.members.note_params.Given as goal

abbrev pub invariant-loop-param : goal.invariant-loop-param
invariant-loop-param l = (p : Place) → IsPlace l.scope p → Adds (SomeOf (map (λ q. q.ty) (map param_plain (take l.param-index l.params))) (IllNamed p)) l.fn.first l.first

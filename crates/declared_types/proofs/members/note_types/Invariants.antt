use Rattle.std.proofs.Common.{map, take}
use Rattle.java_tree.specs.View.{type_plain}
use Rattle.rule_order.specs.Noted.{SomeOf, Adds}
use Rattle.written_types.specs.Places.{Place, IsPlace}
use Rattle.written_types.specs.Breaks.{IllNamed}
use Rattle.declared_types.proofs.members.note_types.Given as goal

abbrev pub invariant-loop-x : goal.invariant-loop-x
invariant-loop-x l = (p : Place) → IsPlace l.scope p → Adds (SomeOf (map type_plain (take l.x-index l.xs)) (IllNamed p)) l.fn.first l.first

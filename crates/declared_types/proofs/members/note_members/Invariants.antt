use Rattle.std.proofs.Common.{map, take}
use Rattle.std.specs.Prelude.{flat_map}
use Rattle.java_tree.specs.View.{member_plain}
use Rattle.rule_order.specs.Noted.{SomeOf, Adds}
use Rattle.written_types.specs.Places.{Place, IsPlace}
use Rattle.written_types.specs.Breaks.{IllNamed}
use Rattle.declared_types.specs.Rules.{member_types}
use Rattle.declared_types.proofs.members.note_members.Given as goal

abbrev pub invariant-loop-m : goal.invariant-loop-m
invariant-loop-m l = (p : Place) → IsPlace l.scope p → Adds (SomeOf (flat_map member_types (map member_plain (take l.m-index l.members))) (IllNamed p)) l.fn.first l.first

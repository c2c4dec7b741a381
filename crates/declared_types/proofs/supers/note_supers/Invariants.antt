use Rattle.std.proofs.Common.{◌++◌, List, map, take}
use Rattle.java_tree.specs.Plain as t
use Rattle.java_tree.specs.View.{type_plain}
use Rattle.rule_order.specs.Noted.{Adds}
use Rattle.written_types.specs.Places.{Place, IsPlace}
use Rattle.declared_types.specs.Spelling.{HoldsSpelled}
use Rattle.declared_types.specs.Looks.{BreaksBehind}
use Rattle.declared_types.proofs.supers.note_supers.Given as goal

abbrev pub invariant-loop-x : goal.invariant-loop-x
invariant-loop-x l = record {
  adds : (p : Place) (before : List t.TypeExpr) → IsPlace l.scope p → HoldsSpelled p l.initial.seen before
      → Adds (BreaksBehind l.scope.types.now p l.wants_class before (map type_plain (take l.x-index l.xs))) l.fn.first l.first;
  held : (p : Place) (before : List t.TypeExpr) → IsPlace l.scope p → HoldsSpelled p l.initial.seen before
      → HoldsSpelled p l.seen (before ++ map type_plain (take l.x-index l.xs));
}

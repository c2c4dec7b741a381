use Rattle.std.proofs.Common.{◌⊎◌, map, take}
use Rattle.java_tree.specs.View.{type_plain}
use Rattle.written_types.specs.Places.{Place, IsPlace}
use Rattle.super_rules.specs.Looks.{IsRow, SaysOneOf}
use Rattle.super_rules.proofs.rows.class_row.Given as goal

abbrev pub invariant-loop-x : goal.invariant-loop-x
invariant-loop-x l = (p : Place) → IsPlace l.entry.scope p → IsRow l.row (λ g. ⊥ ⊎ SaysOneOf p l.entry.scope.types.now (map type_plain (take l.x-index l.x-items)) g)

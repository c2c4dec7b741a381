use Rattle.std.proofs.Common.{◌⊎◌, map, take}
use Rattle.std.specs.Prelude.{Contains}
use Rattle.java_tree.specs.View.{type_plain}
use Rattle.written_types.specs.Places.{Place, IsPlace}
use Rattle.super_rules.specs.Looks.{IsRow, NamesOneOf}
use Rattle.super_rules.proofs.rows.push_named.Given as goal

abbrev pub invariant-loop-x : goal.invariant-loop-x
invariant-loop-x l = (p : Place) → IsPlace l.scope p → IsRow l.row (λ g. Contains l.fn.row g ⊎ NamesOneOf p (map type_plain (take l.x-index l.xs)) g)

use Rattle.std.proofs.Common.{◌≡◌, ◌++◌, map, drop}
use Rattle.java_tree.specs.View as view
use Rattle.java_tree.specs.View.{type_plain}
use Rattle.written_types.specs.Places.{Place, IsPlace}
use Rattle.declared_types.specs.Spelling as spec
use Rattle.declared_types.proofs.spelling.+spell.Given as goal

abbrev pub invariant-spell_all-loop-x : goal.invariant-spell_all-loop-x
invariant-spell_all-loop-x l = (p : Place) → IsPlace l.scope p → l.signs.items ++ spec.all_spelled p (view.types (map type_plain (drop l.x-index l.xs)))
    ≡ l.initial.signs.items ++ spec.all_spelled p (view.types (map type_plain l.xs))

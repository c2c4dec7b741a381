use Rattle.std.proofs.Common.{◌≡◌, ℕ, Some, true, map, take}
use Rattle.std.specs.Prelude.{slice_get}
use Rattle.java_tree.specs.View.{type_plain}
use Rattle.written_types.specs.Places.{Place, IsPlace}
use Rattle.super_rules.specs.Looks.{NamesOneOf}
use Rattle.super_rules.proofs.generics.names_generic.Given as goal

abbrev pub invariant-loop-x : goal.invariant-loop-x
invariant-loop-x l = (p : Place) → IsPlace l.scope p → (g : ℕ) → NamesOneOf p (map type_plain (take l.x-index l.xs)) g → slice_get l.generic g ≡ Some true → ⊥

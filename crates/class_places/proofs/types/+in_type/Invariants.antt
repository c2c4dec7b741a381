use Rattle.std.proofs.Common.{◌≡◌, drop, map}
use Rattle.java_core.specs.View.{type_row, written}
use Rattle.class_places.specs.Places as spec
use Rattle.class_places.proofs.Heights.{type_height, types_height}
use Rattle.class_places.proofs.types.+in_type.Given as goal

abbrev pub decreases-in_type : goal.decreases-in_type
decreases-in_type l = type_height (written l.ty.now)

abbrev pub decreases-in_types : goal.decreases-in_types
decreases-in_types l = types_height (type_row (map written l.types.now))

abbrev pub invariant-in_types-loop-ty : goal.invariant-in_types-loop-ty
invariant-in_types-loop-ty l = spec.in_types l.class (type_row (map written (drop l.ty-index l.types))) l.places ≡ spec.in_types l.class (type_row (map written l.types)) l.fn.places

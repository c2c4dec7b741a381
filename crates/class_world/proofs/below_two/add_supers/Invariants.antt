use Rattle.std.proofs.Common.{◌≡◌, Some}
use Rattle.std.specs.Prelude.{slice_get}
use Rattle.class_world.specs.declared.world.JavaType.{JavaType}
use Rattle.class_world.specs.Merged.{HasPlaces}
use Rattle.class_world.specs.Climbs.{IsClimbing}
use Rattle.class_world.proofs.below_two.add_supers.Given as goal

abbrev pub invariant-loop-d : goal.invariant-loop-d
invariant-loop-d l = record {
  placed : HasPlaces l.found.items l.places;
  climbs : (t : JavaType) → slice_get l.initial.found.items l.at ≡ Some t → IsClimbing l.w t l.initial.found.items l.found.items l.d-items l.d-index;
}

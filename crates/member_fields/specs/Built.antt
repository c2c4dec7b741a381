-- How far the table is built.
use Rattle.std.specs.Prelude.{◌≡◌, ℕ, length}
use Rattle.class_world.specs.declared.world.World.{World}
use Rattle.member_fields.specs.declared.build.Build.{Build}
use Rattle.member_fields.specs.Sums.{HandsDown, HasMap, HasMember}

-- the maps of the class are there
pub record IsDone (w : World) (b : Build) (c : ℕ) : Type 0 where
  pub members : HasMap b.maps b.members.items (HasMember w c) c
  pub handed : HasMap b.maps b.handed.items (HandsDown w c) c

-- there is room for so many classes, and for names below a number
pub record IsSized (b : Build) (names classes : ℕ) : Type 0 where
  pub keys : b.maps.keys ≡ names
  pub members : length b.members.items ≡ classes
  pub handed : length b.handed.items ≡ classes

-- the room stays, and so do the maps of the classes that are done
pub record Grows (w : World) (old new : Build) : Type 0 where
  pub sized : (names classes : ℕ) → IsSized old names classes → IsSized new names classes
  pub done : (c : ℕ) → IsDone w old c → IsDone w new c

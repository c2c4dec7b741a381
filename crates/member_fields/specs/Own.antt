-- The lists of the fields that each type declares.
use Rattle.std.specs.Prelude.{◌≡◌, ℕ, ◌<◌, ◌≤◌, ◌↔◌, List, Some, Contains, slice_get, length}
use Rattle.class_world.specs.declared.world.World.{World}
use Rattle.class_world.specs.declared.world.FieldInfo.{FieldInfo}
use Rattle.class_world.specs.Inheritance.{DeclaresField}

abbrev pub Owns : World → ℕ → ℕ → Type 0
Owns w c f = (info : FieldInfo) × DeclaresField w c f info

-- the field is in the list of the type
abbrev pub HasOwn : List (List ℕ) → ℕ → ℕ → Type 0
HasOwn own c f = (fs : List ℕ) × (slice_get own c ≡ Some fs) × Contains fs f

-- Each type has a list, and the lists have just what each number declares.
pub record ListsFields (w : World) (own : List (List ℕ)) : Type 0 where
  pub size : length w.types ≤ length own
  pub lists : (c f : ℕ) → HasOwn own c f ↔ Owns w c f

-- the names of all fields are below a number
abbrev pub NamesBelow : World → ℕ → Type 0
NamesBelow w n = (f : ℕ) (info : FieldInfo) → slice_get w.fields f ≡ Some info → info.name.0 < n

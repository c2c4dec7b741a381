-- The place and the type that are asked for.
use Rattle.std.specs.Prelude.{◌≡◌, ℕ, ◌<◌, ◌≤◌, ◌^◌, ◌⊎◌, Bool, true, false, ◌&&◌, ◌||◌, not, ◌==◌, List, [], ◌∷◌, length, Option, Some, None, slice_get}
use Rattle.java_tree.specs.declared.tree.Name.{Name}
use Rattle.java_tree.specs.declared.tree.Mod.TheVariants as mods
use Rattle.java_tree.specs.declared.tree.SourceUnit.{SourceUnit}
use Rattle.class_world.specs.declared.world.World.{World}
use Rattle.class_world.specs.declared.world.TypeInfo.{TypeInfo}
use Rattle.class_world.specs.declared.world.JavaType.TheVariants as ty
use Rattle.edit_writer.specs.declared.places.Place.{Place}
use Rattle.edit_writer.specs.Places.{place_at}
use Rattle.java_core.specs.declared.program.CoreFile.{CoreFile}
use Rattle.java_core.specs.View.{file_plain}
use Rattle.type_kinds.specs.Kinds.{has}
use Rattle.type_facts.specs.Facts.{Facts}
use Rattle.type_places.specs.declared.places.TypePlace.{TypePlace}
use Rattle.type_places.specs.Places.{place_in}
use Rattle.generalize_declared.specs.declared.asked.CheckedSource.{CheckedSource}
use Rattle.generalize_declared.specs.declared.asked.Wish.{Wish}

-- ---- the place

-- the line and column, where they are numbers of 32 bits
abbrev pub IsPlaceOf : Wish → Option Place → Type 0
IsPlaceOf x (Some p) = (p.line ≡ x.line) × (p.col ≡ x.col)
IsPlaceOf x None = (2 ^ 32 ≤ x.line) ⊎ (2 ^ 32 ≤ x.col)

-- the byte of the file stands at that line and column
pub record BeginsAt (s : CheckedSource) (x : Wish) (at : ℕ) : Type 0 where
  pub text : List ℕ
  pub there : slice_get s.texts.now x.file ≡ Some text
  pub within : at < length text
  pub line : (place_at text at).line ≡ x.line
  pub col : (place_at text at).col ≡ x.col

-- the head of a declared type begins there
pub record HasPlace (w : World) (s : CheckedSource) (x : Wish) (p : TypePlace) : Type 0 where
  pub at : ℕ
  pub begins : BeginsAt s x at
  pub file : CoreFile
  pub core : slice_get s.core.now.files x.file ≡ Some file
  pub is : place_in w (file_plain file) at ≡ Some p

abbrev pub PlaceIs : World → CheckedSource → Wish → Option TypePlace → Type 0
PlaceIs w s x (Some p) = HasPlace w s x p
PlaceIs w s x None = (p : TypePlace) → HasPlace w s x p → ⊥

-- ---- the type

abbrev pub is_same_path : List Name → List Name → Bool
is_same_path [] [] = true
is_same_path [] (y ∷ ys) = false
is_same_path (x ∷ xs) [] = false
is_same_path (x ∷ xs) (y ∷ ys) = (x.0 == y.0) && is_same_path xs ys

-- without type parameters, and public or of the package
abbrev pub is_open : (home : List Name) → TypeInfo → Bool
is_open p i = (i.params == 0) && (has mods.Public i.mods || is_same_path i.«package» p)

abbrev pub is_target : (home : List Name) → (name : ℕ) → TypeInfo → Bool
is_target p x i = (i.name.0 == x) && is_open p i

abbrev pub IsTargetAt : World → (home : List Name) → (name : ℕ) → ℕ → Type 0
IsTargetAt w p x k = (i : TypeInfo) × (slice_get w.types k ≡ Some i) × (is_target p x i ≡ true)

-- it has this name and no type parameters, and it is public or of the file's package (JLS 6.6.1)
pub record IsTarget (w : World) (s : CheckedSource) (file : ℕ) (word : List ℕ) (k : ℕ) : Type 0 where
  pub unit : SourceUnit
  pub there : slice_get s.units.now file ≡ Some unit
  pub name : ℕ
  pub named : slice_get s.names.now name ≡ Some word
  pub target : IsTargetAt w unit.«package» name k

-- another type, above (JLS 4.10)
abbrev pub is_above : Facts → (new old : ℕ) → Bool
is_above f new old = not (new == old) && f.sub (ty.Class old []) (ty.Class new [])

-- That there are facts, so that what is said of them says something.
use Rattle.std.specs.Prelude.{◌≡◌, ◌⊎◌, ℕ, List, None, Some, slice_get}
use Rattle.java_tree.specs.declared.tree.Name.{Name}
use Rattle.class_world.specs.declared.world.World.{World}
use Rattle.class_world.specs.declared.world.JavaType.{JavaType}
use Rattle.class_world.specs.declared.access.Declared.{Declared}
use Rattle.class_world.specs.Access.{Sees}
use Rattle.class_world.specs.Counted.{IsCountedNamed}
use Rattle.class_world.specs.Inheritance.{IsFieldNamed}
use Rattle.class_world.specs.Sound.{IsKnown}
use Rattle.class_world.specs.Subtypes.{Fits, IsUnchecked, Parameterizes, Subtype}
use Rattle.type_kinds.specs.Casts.{Castable}
use Rattle.type_kinds.specs.OfWorld.{AreBoth, HasSupers}
use Rattle.type_names.specs.declared.known.JavaNames.{JavaNames}
use Rattle.type_names.specs.Known.{File}
use Rattle.type_names.specs.Tables.{StandsFor}
use Rattle.type_facts.specs.declared.questions.Questions.{Questions}
use Rattle.type_facts.specs.Facts.{AreFacts, Facts, IsReady}

abbrev pub Decided : Type 0 → Type 0
Decided P = P ⊎ (P → ⊥)

-- a type of the class g with arguments is above t
abbrev pub HasParameterized : World → JavaType → ℕ → Type 0
HasParameterized w t g = (u : JavaType) × Parameterizes g u × Subtype w t u

-- the name means this field of the type alone
abbrev pub IsOnlyField : World → JavaType → Name → ℕ → Type 0
IsOnlyField w t x f = IsFieldNamed w t x f × ((g : ℕ) → IsFieldNamed w t x g → g ≡ f)

-- it means another one
abbrev pub HasOther : World → JavaType → Name → ℕ → Type 0
HasOther w t x f = (g : ℕ) × IsFieldNamed w t x g × (g ≡ f → ⊥)

-- The excluded middle, of what is asked of a world. A clause cannot have it of every proposition.
pub record IsDecided (w : World) : Type 0 where
  pub known : (c : ℕ) → Decided (IsKnown w c)
  pub has_supers : (t : JavaType) → Decided (HasSupers w t)
  pub below : (s t : JavaType) → Decided (Subtype w s t)
  pub parameterized : (t : JavaType) (g : ℕ) → Decided (HasParameterized w t g)
  pub fits : (s t : JavaType) → Decided (AreBoth w s t × Fits w s t)
  pub sub : (s t : JavaType) → Decided (AreBoth w s t × Subtype w s t)
  pub unchecked : (s t : JavaType) → Decided (AreBoth w s t × IsUnchecked w s t)
  pub castable : (s t : JavaType) → Decided (AreBoth w s t × Castable w s t)
  pub only : (t : JavaType) (x : Name) → Decided ((f : ℕ) × IsOnlyField w t x f)
  pub other : (t : JavaType) (x : Name) (f : ℕ) → Decided (HasOther w t x f)
  pub counted : (c : ℕ) (x : Name) (n m : ℕ) → Decided (IsCountedNamed w c x n m)
  pub sees : (c : ℕ) (d : Declared) → Decided (Sees w c d None)

abbrev pub HaveFacts : Type 0
HaveFacts = (q : Questions) (java : JavaNames) (files : List File) (file : File) → IsDecided q.world.now → IsReady q → StandsFor q.names.now java files → slice_get files q.file ≡ Some file
    → (f : Facts) × AreFacts q f

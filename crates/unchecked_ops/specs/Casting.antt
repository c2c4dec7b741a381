-- Unchecked casts (JLS 5.5, more narrowly than there).
use Rattle.std.specs.Prelude.{◌≡◌, ◌⊎◌, ◌↔◌, IsTrue, ℕ, ◌<◌, Bool, true, false, ◌||◌, List, [], ◌∷◌, Some, slice_get, nat_eq}
use Rattle.class_world.specs.declared.world.World.{World}
use Rattle.class_world.specs.declared.world.TypeInfo.{TypeInfo}
use Rattle.class_world.specs.declared.world.JavaType.{JavaType}
use Rattle.class_world.specs.declared.world.JavaType.TheVariants as ty
use Rattle.class_world.specs.declared.world.JavaType.TheOpen as form
use Rattle.class_world.specs.declared.world.JavaType.TheOpen.{JavaType-F}
use Rattle.class_world.specs.declared.world.JavaType.TheFolds.{fold-JavaType}
use Rattle.class_world.specs.Sound.{IsKnown}
use Rattle.class_world.specs.Subtypes.{Parameterizes, Subtype}
use Rattle.class_world.specs.Types.{substitute, with_own}
use Rattle.type_kinds.specs.OfWorld.{AreBoth}

abbrev pub some : List Bool → Bool
some [] = false
some (b ∷ bs) = b || some bs

abbrev pub occurs_form : ℕ → JavaType-F Bool → Bool
occurs_form k (form.Class c bs) = some bs
occurs_form k (form.Var j) = nat_eq j k
occurs_form k (form.Array b) = b
occurs_form k _ = false

-- the variable of this number stands in the type
abbrev pub occurs : ℕ → JavaType → Bool
occurs k = fold-JavaType Bool (occurs_form k)

abbrev pub of_variable_form : JavaType-F Bool → Bool
of_variable_form (form.Var k) = true
of_variable_form (form.Array b) = b
of_variable_form _ = false

-- a type variable, or an array of one, at any depth
abbrev pub is_of_variable : JavaType → Bool
is_of_variable = fold-JavaType Bool of_variable_form

-- n type variables stand in the type
abbrev pub Hold : ℕ → JavaType → Type 0
Hold n t = (k : ℕ) → k < n → IsTrue (occurs k t)

-- The operand's type s determines the arguments of the target, a parameterization of g, by the class h: a parameterization of h is above s; g with its own variables
-- is below h in a form in which each of them occurs; and that form with the target's arguments is that parameterization.
pub record DeterminesBy (w : World) (s : JavaType) (g : ℕ) (args : List JavaType) (h : ℕ) : Type 0 where
  pub above : JavaType
  pub parameterizes : Parameterizes h above
  pub operand : Subtype w s above
  pub info : TypeInfo
  pub known : slice_get w.types g ≡ Some info
  pub form : JavaType
  pub generic : Parameterizes h form
  pub target : Subtype w (with_own g info.params) form
  pub each : Hold info.params form
  pub same : substitute args form ≡ above

-- by some class of the world
abbrev pub Determines : World → JavaType → ℕ → List JavaType → Type 0
Determines w s g args = (h : ℕ) × IsKnown w h × DeterminesBy w s g args h

-- t is a class type with arguments that s does not determine, and s is not the type of null
abbrev pub IsToArguments : World → JavaType → JavaType → Type 0
IsToArguments w s t = (g : ℕ) × (to : Parameterizes g t) × (s ≡ ty.Null → ⊥) × (Determines w s g to.0 → ⊥)

-- t is a type variable or an array of one, and s is not below it
abbrev pub IsToVariable : World → JavaType → JavaType → Type 0
IsToVariable w s t = IsTrue (is_of_variable t) × (Subtype w s t → ⊥)

abbrev pub IsUncheckedCast : World → JavaType → JavaType → Type 0
IsUncheckedCast w s t = IsToArguments w s t ⊎ IsToVariable w s t

-- the function says of any types whether a cast of the first to the second is unchecked
pub record AreCasts (w : World) (u : JavaType → JavaType → Bool) : Type 0 where
  pub says : (s t : JavaType) → IsTrue (u s t) ↔ (AreBoth w s t × IsUncheckedCast w s t)

-- Numbers of erased signatures.
use Rattle.std.specs.Prelude.{◌≡◌, ℕ, ◌<◌, ◌↔◌, ◌⊎◌, Bool, true, List, Option, Some, slice_get, length, map}
use Rattle.class_world.specs.declared.world.World.{World}
use Rattle.class_world.specs.declared.world.MethodInfo.{MethodInfo}
use Rattle.class_world.specs.Types.{erased}
use Rattle.class_world.specs.Signatures.{IsMethod, HaveOneSignatureIn}
use Rattle.class_world.specs.Inheritance.{DeclaresMethod, IsMemberMethod, IsMethodNamed}
use Rattle.seen_methods.specs.Closed.{HasClosedParams}

-- Each method and constructor has a number, at its place; two have one number exactly if they have one name and one list of erased parameter types.
pub record AreErased (w : World) (numbers : List ℕ) : Type 0 where
  pub size : length numbers ≡ length w.methods
  pub told : (m k a b : ℕ) (i j : MethodInfo) → slice_get w.methods m ≡ Some i → slice_get w.methods k ≡ Some j → slice_get numbers m ≡ Some a → slice_get numbers k ≡ Some b
      → (a ≡ b) ↔ ((i.name ≡ j.name) × (map erased i.params ≡ map erased j.params))

-- Each of the first i members of c has one signature in c with the first member that is kept for its number.
pub record AreLike (w : World) (c : ℕ) (numbers ms : List ℕ) (i : ℕ) (find : ℕ → Option ℕ) : Type 0 where
  pub kept : (j m n : ℕ) → j < i → slice_get ms j ≡ Some m → slice_get numbers m ≡ Some n → (f : ℕ) × (find n ≡ Some f) × HaveOneSignatureIn w c f m
  pub from : (n f : ℕ) → find n ≡ Some f → (slice_get numbers f ≡ Some n) × IsMemberMethod w c f

-- no other member of c has the method's name and number of parameters
abbrev pub IsAlone : World → ℕ → ℕ → Type 0
IsAlone w c m = (info : MethodInfo) → IsMethod w m info → (k : ℕ) → IsMethodNamed w c info.name (length info.params) k → k ≡ m

-- the parameter types of the method hold no type variable, or it is alone
abbrev pub IsClosedOrAlone : World → ℕ → ℕ → Type 0
IsClosedOrAlone w c m = HasClosedParams w m ⊎ IsAlone w c m

-- Of the first i members of c that c does not declare, each that has a type variable in its parameter types is alone, and no two have one number.
pub record AreSingle (w : World) (c : ℕ) (numbers ms : List ℕ) (i : ℕ) (has : ℕ → Bool) : Type 0 where
  pub held : (j m n : ℕ) → j < i → slice_get ms j ≡ Some m → (DeclaresMethod w c m → ⊥) → slice_get numbers m ≡ Some n → has n ≡ true
  pub closed : (j m : ℕ) → j < i → slice_get ms j ≡ Some m → (DeclaresMethod w c m → ⊥) → IsClosedOrAlone w c m
  pub apart : (j l m k n : ℕ) → j < l → l < i → slice_get ms j ≡ Some m → slice_get ms l ≡ Some k → (DeclaresMethod w c m → ⊥) → (DeclaresMethod w c k → ⊥)
      → slice_get numbers m ≡ Some n → slice_get numbers k ≡ Some n → ⊥

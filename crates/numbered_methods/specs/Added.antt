-- Methods in the lists of their signatures' numbers.
use Rattle.std.specs.Prelude.{◌≡◌, ◌++◌, ◌∷◌, [], ◌⊎◌, ℕ, List, Option, Some, None, nat_eq, slice_get, unwrap_or}
use Rattle.std.specs.List.{Contains}
use Rattle.std.specs.HashMap.{get}
use Rattle.java_tree.specs.declared.tree.Name.{Name}
use Rattle.class_world.specs.declared.world.World.{World}
use Rattle.class_world.specs.declared.world.MethodInfo.{MethodInfo}
use Rattle.class_world.specs.declared.world.JavaType.{JavaType}
use Rattle.class_world.specs.Signatures.{HasParams, IsMethod}
use Rattle.signature_numbers.specs.Steps.{Steps}
use Rattle.signature_numbers.specs.Numbers.{AreApart, number_in}
use Rattle.numbered_methods.specs.declared.NumberedMethods.{NumberedMethods}

-- no element stands twice
abbrev pub IsOnce : List ℕ → Type 0
IsOnce xs = (i j x : ℕ) → slice_get xs i ≡ Some x → slice_get xs j ≡ Some x → i ≡ j

-- the list that a number has, the empty one if it has none
abbrev pub items_at : (ℕ → Option (List ℕ)) → ℕ → List ℕ
items_at find n = unwrap_or (find n) []

abbrev pub listed_in : NumberedMethods → ℕ → List ℕ
listed_in t n = items_at (get nat_eq t.lists) n

abbrev pub listed_by : NumberedMethods → Option ℕ → List ℕ
listed_by t None = []
listed_by t (Some n) = listed_in t n

-- the method has a signature in c, and this is its number
abbrev pub HasNumber : World → ℕ → Steps → ℕ → ℕ → Type 0
HasNumber w c numbers m n = (info : MethodInfo) × IsMethod w m info × (ps : List JavaType) × HasParams w c m ps × (number_in numbers info.name ps ≡ Some n)

-- the number of the signature that the table's type sees of the method, or none where it sees none or that has none
abbrev pub IsNumberOf : World → ℕ → NumberedMethods → Option ℕ → Type 0
IsNumberOf w m t o =
    ((info : MethodInfo) (ps : List JavaType) → IsMethod w m info → HasParams w t.class m ps → o ≡ number_in t.numbers info.name ps)
    × ((n : ℕ) → o ≡ Some n → HasNumber w t.class t.numbers m n)

-- The method m stands in the list of its signature's number; no other list changes, and what has a number keeps it.
pub record IsAdded (w : World) (m : ℕ) (old new : NumberedMethods) : Type 0 where
  pub class : new.class ≡ old.class
  pub apart : AreApart new.numbers
  pub kept : (a : Name) (ps : List JavaType) (n : ℕ) → number_in old.numbers a ps ≡ Some n → number_in new.numbers a ps ≡ Some n
  pub told : (info : MethodInfo) (ps : List JavaType) → IsMethod w m info → HasParams w old.class m ps → (n : ℕ) × (number_in new.numbers info.name ps ≡ Some n) × Contains (listed_in new n) m
  pub lists : (n : ℕ) → (listed_in new n ≡ listed_in old n) ⊎ ((listed_in new n ≡ listed_in old n ++ m ∷ []) × HasNumber w old.class new.numbers m n)

-- Methods of which P holds stand in the lists of their signatures' numbers, each once.
pub record AreListed (w : World) (P : ℕ → Type 0) (t : NumberedMethods) : Type 0 where
  pub apart : AreApart t.numbers
  pub right : (n k : ℕ) → Contains (listed_in t n) k → P k × HasNumber w t.class t.numbers k n
  pub once : (n : ℕ) → IsOnce (listed_in t n)
  pub all : (k : ℕ) (info : MethodInfo) (ps : List JavaType) → P k → IsMethod w k info → HasParams w t.class k ps → (n : ℕ) × (number_in t.numbers info.name ps ≡ Some n) × Contains (listed_in t n) k

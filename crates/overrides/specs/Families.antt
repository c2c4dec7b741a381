-- Families of methods by labels: the methods of one label are one family.
use Rattle.std.specs.Prelude.{◌≡◌, ℕ, ◌<◌, ◌⊎◌, ◌↔◌, List, Some, slice_get, length}
use Rattle.std.specs.List.{Contains}
use Rattle.std.specs.List.Sorted.{IsStrictlyIncreasing}
use Rattle.class_world.specs.declared.world.World.{World}
use Rattle.class_world.specs.Overriding.{IsFamily}

-- two methods have one label
abbrev pub AreAlike : List ℕ → ℕ → ℕ → Type 0
AreAlike labels m k = (l : ℕ) × (slice_get labels m ≡ Some l) × (slice_get labels k ≡ Some l)

abbrev pub IsListed : List (List ℕ) → ℕ → ℕ → Type 0
IsListed members l m = (list : List ℕ) × (slice_get members l ≡ Some list) × Contains list m

-- the methods of each label are listed, and each label is that of a method's number
pub record AreGroups (labels : List ℕ) (members : List (List ℕ)) : Type 0 where
  pub size : length members ≡ length labels
  pub within : (m l : ℕ) → slice_get labels m ≡ Some l → l < length labels
  pub each : (m l : ℕ) → (slice_get labels m ≡ Some l) ↔ IsListed members l m

-- all methods of one label have another now
pub record IsRelabelled (old new : List ℕ) (from into : ℕ) : Type 0 where
  pub size : length new ≡ length old
  pub moved : (m : ℕ) → slice_get old m ≡ Some from → slice_get new m ≡ Some into
  pub kept : (m l : ℕ) → slice_get old m ≡ Some l → (l ≡ from → ⊥) → slice_get new m ≡ Some l

-- what is alike stays so, and two methods and what is like them have become alike
pub record IsMerged (old new : List ℕ) (m k : ℕ) : Type 0 where
  pub size : length new ≡ length old
  pub kept : (x y : ℕ) → AreAlike old x y → AreAlike new x y
  pub here : AreAlike new m k
  pub only : (x y : ℕ) → AreAlike new x y → AreAlike old x y ⊎ (AreAlike old x m × AreAlike old k y) ⊎ (AreAlike old x k × AreAlike old m y)

-- methods of one label are of one family, so far
pub record AreMerging (w : World) (labels : List ℕ) : Type 0 where
  pub size : length labels ≡ length w.methods
  pub sound : (m k : ℕ) → AreAlike labels m k → IsFamily w m k

abbrev pub KeepsAlike : List ℕ → List ℕ → Type 0
KeepsAlike old new = (m k : ℕ) → AreAlike old m k → AreAlike new m k

-- the labels of the families
pub record AreLabels (w : World) (labels : List ℕ) : Type 0 where
  pub size : length labels ≡ length w.methods
  pub within : (m l : ℕ) → slice_get labels m ≡ Some l → l < length labels
  pub each : (m k : ℕ) → m < length w.methods → AreAlike labels m k ↔ IsFamily w m k

-- the numbers of one label, ascending
pub record IsGroup (labels : List ℕ) (l : ℕ) (list : List ℕ) : Type 0 where
  pub each : (m : ℕ) → Contains list m ↔ (slice_get labels m ≡ Some l)
  pub ascending : IsStrictlyIncreasing list

-- a list for each label
abbrev pub AreFamilies : List ℕ → List (List ℕ) → Type 0
AreFamilies labels families = (l : ℕ) → l < length labels → (list : List ℕ) × (slice_get families l ≡ Some list) × IsGroup labels l list

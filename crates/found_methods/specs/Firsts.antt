-- The first methods of a family that are met along superclasses.
use Rattle.std.specs.Prelude.{◌≡◌, ℕ, List, Option, Some, None, slice_get, length, unwrap_or}
use Rattle.class_world.specs.declared.world.World.{World}
use Rattle.class_world.specs.Overriding.{IsSuperclass}
use Rattle.overrides.specs.Tables.{value_at}
use Rattle.found_methods.specs.declared.firsts.Firsts.{Firsts}
use Rattle.found_methods.specs.Own.{IsOwn, IsLowest, LowestIs}
use Rattle.found_methods.specs.Tables.{first_of, begun_with}

-- s is the superclass of c, which has no other
abbrev pub IsOnlySuperclass : World → ℕ → ℕ → Type 0
IsOnlySuperclass w c s = IsSuperclass w c s × ((x : ℕ) → IsSuperclass w c x → x ≡ s)

-- The class o is c or above it along only superclasses, and no class before o declares a method of the label.
pub data Rises (w : World) (labels : List ℕ) (l : ℕ) : ℕ → ℕ → Type 0 where
  here : {c : ℕ} → Rises w labels l c c
  up : {c s o : ℕ} → ((k : ℕ) → IsOwn w labels l c k → ⊥) → IsOnlySuperclass w c s → Rises w labels l s o → Rises w labels l c o

-- Upwards from c the first class with methods of the label has k as their lowest; or none has any up to the class `end`.
abbrev pub Meets : World → List ℕ → (l c end : ℕ) → Option ℕ → Type 0
Meets w labels l c end None = Rises w labels l c end × LowestIs w labels l end None
Meets w labels l c end (Some k) = (o : ℕ) × Rises w labels l c o × IsLowest w labels l o k

-- for each label, what is met from c upwards
abbrev pub HoldsFirsts : World → List ℕ → Firsts → ℕ → Type 0
HoldsFirsts w labels t c = (end : ℕ) × (slice_get t.ends.items c ≡ Some end) × ((l : ℕ) → Meets w labels l c end (value_at t.table c l))

-- where the search from a class ends that begins as that from another, or at the class itself
abbrev pub end_with : List ℕ → Option ℕ → ℕ → ℕ
end_with ends None c = c
end_with ends (Some from) c = unwrap_or (slice_get ends from) c

pub record AreSized (t : Firsts) (classes limit : ℕ) : Type 0 where
  pub rows : length t.table.rows ≡ classes
  pub keys : t.table.maps.keys ≡ limit
  pub ends : length t.ends.items ≡ classes

-- The class c has its own values, and else those of another or none; all others stay.
pub record IsAdded (old new : Firsts) (c : ℕ) (from : Option ℕ) (own : ℕ → Option ℕ) : Type 0 where
  pub sized : (classes limit : ℕ) → AreSized old classes limit → AreSized new classes limit
  pub values : (l : ℕ) → value_at new.table c l ≡ first_of (own l) (begun_with old.table from l)
  pub end : slice_get new.ends.items c ≡ Some (end_with old.ends.items from c)
  pub others : (d l : ℕ) → (d ≡ c → ⊥) → value_at new.table d l ≡ value_at old.table d l
  pub ends : (d : ℕ) → (d ≡ c → ⊥) → slice_get new.ends.items d ≡ slice_get old.ends.items d

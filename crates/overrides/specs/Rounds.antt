-- The rounds that add what follows from what each method overrides at once.
use Rattle.std.specs.Prelude.{◌≡◌, ℕ, Bool, true, false, List, Option, Some, slice_get, length, ◌↔◌}
use Rattle.shared_maps.specs.declared.Map.{Map}
use Rattle.shared_maps.specs.Maps.{IsMap, value_in}
use Rattle.class_world.specs.declared.world.World.{World}
use Rattle.class_world.specs.Signatures.{AgreeBelow}
use Rattle.class_world.specs.Overriding.{Overriding}
use Rattle.overrides.specs.Tables.{Rows, IsOfSize, Has}
use Rattle.overrides.specs.declared.links.Link.{Link}

-- a method has in its row only what it overrides
pub record IsDerived (w : World) (t : Rows) : Type 0 where
  pub size : IsOfSize (length w.methods) t
  pub sound : (m k : ℕ) → Has t m k → Overriding w m k

abbrev pub Grows : Rows → Rows → Type 0
Grows old new = (m k : ℕ) → Has old m k → Has new m k

abbrev pub Gains : Rows → Rows → Type 0
Gains old new = (m : ℕ) × (k : ℕ) × (Has old m k → ⊥) × Has new m k

-- Nothing was taken away; something was added, or all is as it was.
pub record IsStep (old new : Rows) (added : Bool) : Type 0 where
  pub grows : Grows old new
  pub gains : added ≡ true → Gains old new
  pub same : added ≡ false → new ≡ old

-- the row of m has k, unless they are one, or differ in a type below both
abbrev pub HasThird : World → ℕ → Rows → ℕ → Type 0
HasThird w m table k = (m ≡ k → ⊥) → AgreeBelow w m k → Has table m k

-- the row of m has all that m overrides through what the row has
abbrev pub IsClosed : World → Rows → ℕ → Type 0
IsClosed w table m = (t : ℕ) → Has table m t → (k : ℕ) → Has table t k → HasThird w m table k

-- the row of m has t, and all that m overrides through t
abbrev pub IsFollowed : World → Rows → ℕ → ℕ → Type 0
IsFollowed w table m t = Has table m t × ((k : ℕ) → Has table t k → HasThird w m table k)

-- the row of m has t now, and all that m overrides through t, by the row that t had
pub record IsJoined (w : World) (old new : Rows) (m t : ℕ) : Type 0 where
  pub has : Has new m t
  pub all : (k : ℕ) → Has old t k → HasThird w m new k

-- the row of m has t, and all that m overrides through t, by a map that was the row of t
pub record IsTaken (w : World) (table : Rows) (m t : ℕ) (map : Map) : Type 0 where
  pub known : IsMap table.maps map
  pub has : Has table m t
  pub all : (k v : ℕ) → value_in table.maps map k ≡ Some v → HasThird w m table k

-- so by the map that stands beside a link, if there is one
abbrev pub HasTaken : World → Rows → Link → Option Map → Type 0
HasTaken w table x taken = (map : Map) → taken ≡ Some map → IsTaken w table x.lower x.upper map

-- beside each link
abbrev pub AreTaken : World → Rows → List Link → List (Option Map) → Type 0
AreTaken w table links taken = (i : ℕ) (x : Link) (o : Option Map) → slice_get links i ≡ Some x → slice_get taken i ≡ Some o → HasTaken w table x o

abbrev pub HoldsOverriding : World → Rows → Type 0
HoldsOverriding w t = (m k : ℕ) → Has t m k ↔ Overriding w m k

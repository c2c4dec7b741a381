-- Maps from keys to lists.
use Rattle.std.specs.Prelude.{◌≡◌, ℕ, ◌↔◌, List, Some}
use Rattle.std.specs.List.{Contains}
use Rattle.shared_maps.specs.declared.Map.{Map}
use Rattle.shared_maps.specs.Maps.{IsMap, value_in}
use Rattle.member_methods.specs.declared.tables.Tables.{Tables}
use Rattle.member_methods.specs.Lists.{Grows, IsList, list_at}

-- what a map lists for a key
abbrev pub listed : Tables → Map → ℕ → List ℕ
listed t map k = list_at t.lists (value_in t.maps map k)

-- the map is one of the memory, and its values are numbers of ascending lists
pub record IsGood (t : Tables) (map : Map) : Type 0 where
  pub there : IsMap t.maps map
  pub lists : (k n : ℕ) → value_in t.maps map k ≡ Some n → IsList t.lists n

-- the lists and the good maps stay as they are
pub record Keeps (old new : Tables) : Type 0 where
  pub keys : new.maps.keys ≡ old.maps.keys
  pub grows : Grows old.lists new.lists
  pub good : (map : Map) → IsGood old map → IsGood new map
  pub same : (map : Map) → IsGood old map → (k : ℕ) → listed new map k ≡ listed old map k

-- The map lists for each key k the numbers m of which P k m holds, and the good old maps stay as they are.
pub record IsMapOf (old new : Tables) (map : Map) (P : ℕ → ℕ → Type 0) : Type 0 where
  pub good : IsGood new map
  pub keeps : Keeps old new
  pub has : (k m : ℕ) → Contains (listed new map k) m ↔ P k m

-- What the maps of a memory are, and what stays as it is.
use Rattle.std.specs.Prelude.{◌≡◌, ℕ, ◌<◌, ◌≤◌, ◌↔◌, if◌then◌else◌, nat_lt, List, Option, Some, None, length, Contains, AllPairs}
use Rattle.shared_maps.specs.declared.Map.{Map}
use Rattle.shared_maps.specs.Trees.{Differ, Memory, OnlyRight, value_at}

-- the number is one of a map of the memory
pub record IsMap (m : Memory) (map : Map) : Type 0 where
  pub within : map.number < length m.nodes

-- what a map has at a key; nothing at a key that is not below the limit
unfoldable pub value_in : Memory → Map → ℕ → Option ℕ
value_in m map key = if nat_lt key m.keys then value_at m.nodes m.height map.number key else None

-- Each map of the old memory is one of the new memory, and has the same values.
pub record KeepsMaps (old new : Memory) : Type 0 where
  pub keys : new.keys ≡ old.keys
  pub map : (map : Map) → IsMap old map → IsMap new map
  pub value : (map : Map) → IsMap old map → (key : ℕ) → value_in new map key ≡ value_in old map key

-- the keys that have a value, each with it, in ascending order
pub record AreEntries (value : ℕ → Option ℕ) (entries : List (ℕ × ℕ)) : Type 0 where
  pub each : (k v : ℕ) → Contains entries (k, v) ↔ (value k ≡ Some v)
  pub ascending : AllPairs (λ a b. a.0 < b.0) entries

-- the keys that have a value on both sides, and not the same one, in ascending order
pub record AreDiffering (left right : ℕ → Option ℕ) (keys : List ℕ) : Type 0 where
  pub each : (k : ℕ) → Contains keys k ↔ Differ (left k) (right k)
  pub ascending : AllPairs (λ a b. a < b) keys

-- a key from `from` on that has a value on the right side, and none on the left
pub record IsLacking (left right : ℕ → Option ℕ) (from k : ℕ) : Type 0 where
  pub large : from ≤ k
  pub values : OnlyRight (left k) (right k)

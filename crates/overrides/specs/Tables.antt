-- A table of numbers by a row and a key: a map for each row, in one memory.
use Rattle.std.specs.Prelude.{◌≡◌, ◌==◌, ℕ, List, Option, Some, None, if◌then◌else◌, ◌⊎◌, slice_get, length}
use Rattle.std.specs.Option.{option_or}
use Rattle.shared_maps.specs.declared.Map.{Map}
use Rattle.shared_maps.specs.Trees.{Memory}
use Rattle.shared_maps.specs.Maps.{IsMap, value_in}

pub record Rows : Type 0 where
  pub maps : Memory
  pub rows : List Map

-- what is true of every table
pub record IsTable (maps : Memory) (rows : List Map) : Type 0 where
  pub each : (i : ℕ) (map : Map) → slice_get rows i ≡ Some map → IsMap maps map

abbrev pub value_of : Memory → Option Map → ℕ → Option ℕ
value_of maps None key = None
value_of maps (Some map) key = value_in maps map key

-- what the row m has at a key
abbrev pub value_at : Rows → ℕ → ℕ → Option ℕ
value_at t m key = value_of t.maps (slice_get t.rows m) key

abbrev pub Has : Rows → ℕ → ℕ → Type 0
Has t m key = (v : ℕ) × (value_at t m key ≡ Some v)

-- n rows, with the keys below n
pub record IsOfSize (n : ℕ) (t : Rows) : Type 0 where
  pub rows : length t.rows ≡ n
  pub keys : t.maps.keys ≡ n

pub record AreOfOneSize (old new : Rows) : Type 0 where
  pub rows : length new.rows ≡ length old.rows
  pub keys : new.maps.keys ≡ old.maps.keys

-- the row m has a value at a key, and all others stay
pub record IsWritten (old new : Rows) (m key v : ℕ) : Type 0 where
  pub here : value_at new m key ≡ Some v
  pub there : (a b : ℕ) → (a ≡ m → b ≡ key → ⊥) → value_at new a b ≡ value_at old a b

-- what the row of t gives to that of m
abbrev pub given : Rows → ℕ → ℕ → ℕ → Option ℕ
given table m t key = if key == m then None else value_at table t key

-- what the row of m has at a key with the key t and with what the row of t gives
abbrev pub united : Rows → ℕ → ℕ → ℕ → Option ℕ
united table m t key = if key == t then Some 0 else option_or (value_at table m key) (given table m t key)

-- The row of m is united with that of t, and all others stay.
pub record IsUnited (old new : Rows) (m t : ℕ) : Type 0 where
  pub row : (key : ℕ) → value_at new m key ≡ united old m t key
  pub there : (a b : ℕ) → (a ≡ m → ⊥) → value_at new a b ≡ value_at old a b

-- a key that the row of m has not, and gets from that of t
abbrev pub Lacks : Rows → ℕ → ℕ → Type 0
Lacks table m t = (k : ℕ) × (Has table m k → ⊥) × ((k ≡ t) ⊎ (Has table t k × (m ≡ k → ⊥)))

-- the row of m has t, and all that the row of t has but for m
pub record HasRow (table : Rows) (m t : ℕ) : Type 0 where
  pub key : Has table m t
  pub row : (k : ℕ) → Has table t k → (m ≡ k → ⊥) → Has table m k

-- The methods that a type declares, and its own type.
use Rattle.std.specs.Prelude.{◌≡◌, ℕ, ◌<◌, ◌≤◌, ◌↔◌, List, Some, slice_get, length, nat_eq}
use Rattle.std.specs.List.{Contains}
use Rattle.std.specs.declared.hash.FoldHasher.{FoldHasher}
use Rattle.std.specs.declared.hash.BuildHasherDefault.{BuildHasherDefault}
use Rattle.std.specs.HashMap.{get, HashMap}
use Rattle.class_world.specs.declared.world.World.{World}
use Rattle.class_world.specs.declared.world.MethodInfo.{MethodInfo}
use Rattle.class_world.specs.Inheritance.{DeclaresMethod}
use Rattle.member_methods.specs.declared.own.Group.{Group}

-- the limit is above the numbers of all types and of all owners, and above 0
pub record IsOwnerLimit (w : World) (limit : ℕ) : Type 0 where
  pub types : length w.types ≤ limit
  pub owners : (m : ℕ) (info : MethodInfo) → slice_get w.methods m ≡ Some info → info.owner < limit
  pub some : 0 < limit

-- the lists by type have the methods that the types below the limit declare
pub record AreOwn (w : World) (limit : ℕ) (own : List (List ℕ)) : Type 0 where
  pub size : length own ≡ limit
  pub each : (c : ℕ) (ms : List ℕ) → slice_get own c ≡ Some ms → (m : ℕ) → Contains ms m ↔ DeclaresMethod w c m

-- the method is in a group of this key
abbrev pub IsInGroup : List Group → ℕ → ℕ → Type 0
IsInGroup groups q m = (i : ℕ) × (g : Group) × (slice_get groups i ≡ Some g) × (g.key ≡ q) × Contains g.methods m

-- and one of the first n
abbrev pub IsInFirst : List Group → ℕ → ℕ → ℕ → Type 0
IsInFirst groups n q m = (i : ℕ) × (g : Group) × (i < n) × (slice_get groups i ≡ Some g) × (g.key ≡ q) × Contains g.methods m

-- a group has this key
abbrev pub HasKey : List Group → ℕ → Type 0
HasKey groups q = (i : ℕ) × (g : Group) × (slice_get groups i ≡ Some g) × (g.key ≡ q)

-- no key has two groups
abbrev pub AreSingle : List Group → Type 0
AreSingle groups = (i j : ℕ) (g h : Group) → slice_get groups i ≡ Some g → slice_get groups j ≡ Some h → g.key ≡ h.key → i ≡ j

-- The groups have the methods, each in the group of its key; each key has one group, and each group's key is that of a method.
pub record AreGroups (keyed own : List ℕ) (groups : List Group) : Type 0 where
  pub has : (q m : ℕ) → IsInGroup groups q m ↔ (Contains own m × (slice_get keyed m ≡ Some q))
  pub single : AreSingle groups
  pub inside : (i : ℕ) (g : Group) → slice_get groups i ≡ Some g → (m : ℕ) × (slice_get keyed m ≡ Some g.key)

abbrev pub Places : Type 0
Places = HashMap ℕ ℕ (BuildHasherDefault FoldHasher)

-- a key's place is that of the group with the key
abbrev pub ArePlaces : Places → List Group → Type 0
ArePlaces places groups = (q i : ℕ) → (get nat_eq places q ≡ Some i) ↔ ((g : Group) × (slice_get groups i ≡ Some g) × (g.key ≡ q))

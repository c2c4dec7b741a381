-- Binary trees that share nodes in one list. A node's number is its place, and a tree is known by its top node. A tree of so many levels has the keys below 2 to that number.
use Rattle.std.specs.Prelude.{◌≡◌, ℕ, zero, suc, ◌+◌, ◌-◌, ◌^◌, ◌<◌, ◌≤◌, if◌then◌else◌, nat_lt, List, [], ◌∷◌, ◌++◌, Option, Some, None, ◌↔◌, slice_get, length, Contains, AllPairs}
use Rattle.shared_maps.specs.declared.trees.Node.{Node}
use Rattle.shared_maps.specs.declared.trees.Node.TheVariants as node

abbrev pub value_of : Option Node → Option ℕ
value_of None = None
value_of (Some node.Nothing) = None
value_of (Some (node.Value v)) = Some v
value_of (Some (node.Fork low high)) = None

-- the tree of the lower half of the keys
abbrev pub low_of : Option Node → ℕ
low_of None = 0
low_of (Some node.Nothing) = 0
low_of (Some (node.Value v)) = 0
low_of (Some (node.Fork low high)) = low

-- the tree of the upper half of the keys
abbrev pub high_of : Option Node → ℕ
high_of None = 0
high_of (Some node.Nothing) = 0
high_of (Some (node.Value v)) = 0
high_of (Some (node.Fork low high)) = high

-- the trees of the two halves
pub record HasHalves (nodes : List Node) (root l h : ℕ) : Type 0 where
  pub low : l ≡ low_of (slice_get nodes root)
  pub high : h ≡ high_of (slice_get nodes root)

-- what a key is mapped to by the tree of so many levels under a node
abbrev pub value_at : List Node → ℕ → ℕ → ℕ → Option ℕ
value_at nodes zero root key = value_of (slice_get nodes root)
value_at nodes (suc levels) root key =
    if nat_lt key (2 ^ levels)
    then value_at nodes levels (low_of (slice_get nodes root)) key
    else value_at nodes levels (high_of (slice_get nodes root)) (key - 2 ^ levels)

abbrev pub entry_of : ℕ → Option ℕ → List (ℕ × ℕ)
entry_of key None = []
entry_of key (Some value) = (key, value) ∷ []

-- the keys of a tree that are below a limit, with their values; the tree's first key is `from`
abbrev pub entries_at : List Node → ℕ → ℕ → ℕ → ℕ → List (ℕ × ℕ)
entries_at nodes keys zero root from = if nat_lt from keys then entry_of from (value_of (slice_get nodes root)) else []
entries_at nodes keys (suc levels) root from =
    entries_at nodes keys levels (low_of (slice_get nodes root)) from
    ++ entries_at nodes keys levels (high_of (slice_get nodes root)) (from + 2 ^ levels)

-- two values, and not the same one
abbrev pub Differ : Option ℕ → Option ℕ → Type 0
Differ left right = (x : ℕ) × (y : ℕ) × (left ≡ Some x) × (right ≡ Some y) × (x ≡ y → ⊥)

-- a key below a limit that two trees have different values for; the trees' first key is `from`
pub record DiffersIn (nodes : List Node) (keys levels left right from k : ℕ) : Type 0 where
  pub low : from ≤ k
  pub high : k < from + 2 ^ levels
  pub small : k < keys
  pub values : Differ (value_at nodes levels left (k - from)) (value_at nodes levels right (k - from))

-- a value on the right side, and none on the left
abbrev pub OnlyRight : Option ℕ → Option ℕ → Type 0
OnlyRight left right = (v : ℕ) × (left ≡ None) × (right ≡ Some v)

-- a key from `from` on that the right one of two trees has, and the left one has not
pub record LacksFrom (nodes : List Node) (levels left right from k : ℕ) : Type 0 where
  pub within : k < 2 ^ levels
  pub large : from ≤ k
  pub values : OnlyRight (value_at nodes levels left k) (value_at nodes levels right k)

-- the least number that P holds of, if it holds of one
abbrev pub IsFirst : (ℕ → Type 0) → Option ℕ → Type 0
IsFirst P None = (k : ℕ) → P k → ⊥
IsFirst P (Some first) = P first × ((k : ℕ) → P k → first ≤ k)

-- behind the old keys, in ascending order, those that P holds of
pub record Adds (old new : List ℕ) (P : ℕ → Type 0) : Type 0 where
  pub more : List ℕ
  pub added : new ≡ old ++ more
  pub each : (k : ℕ) → Contains more k ↔ P k
  pub ascending : AllPairs (λ a b. a < b) more

-- a node whose halves have numbers below a limit
abbrev pub AreInside : ℕ → Node → Type 0
AreInside n node.Nothing = Unit {0}
AreInside n (node.Value v) = Unit {0}
AreInside n (node.Fork low high) = (low < n) × (high < n)

-- The first node is the tree with no keys, and each node's halves are nodes.
pub record IsArena (nodes : List Node) : Type 0 where
  pub first : slice_get nodes 0 ≡ Some node.Nothing
  pub inside : (i : ℕ) (x : Node) → slice_get nodes i ≡ Some x → AreInside (length nodes) x

-- the old nodes stand at their places in the new list
pub record Grows (old new : List Node) : Type 0 where
  pub size : length old ≤ length new
  pub kept : (i : ℕ) → i < length old → slice_get new i ≡ slice_get old i

-- the nodes of all maps, which have the keys below `keys` and are trees of `height` levels
pub record Memory : Type 0 where
  pub keys : ℕ
  pub height : ℕ
  pub nodes : List Node

-- what is true of every memory
pub record IsMemory (keys height : ℕ) (nodes : List Node) : Type 0 where
  pub arena : IsArena nodes
  pub enough : keys ≤ 2 ^ height
  pub few : height ≤ 32

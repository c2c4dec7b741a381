-- Ways in a directed graph, which is the list of the targets of each node. A node's number is its place.
use Rattle.std.specs.Prelude.{◌≡◌, ℕ, ◌<◌, ◌⊎◌, Bool, true, List, Option, Some, None, Contains, slice_get, length}

-- an edge of the graph, between nodes of it
abbrev pub IsEdge : List (List ℕ) → ℕ → ℕ → Type 0
IsEdge g a b = (targets : List ℕ) × (slice_get g a ≡ Some targets) × Contains targets b × (b < length g)

-- a way of one or more edges
pub data Leads (g : List (List ℕ)) : ℕ → ℕ → Type 0 where
  step : {a b : ℕ} → IsEdge g a b → Leads g a b
  further : {a m b : ℕ} → IsEdge g a m → Leads g m b → Leads g a b

-- the node is a marked one, or a way leads from it to one
abbrev pub Reaches : List (List ℕ) → List Bool → ℕ → Type 0
Reaches g marks a = (slice_get marks a ≡ Some true) ⊎ ((b : ℕ) × Leads g a b × (slice_get marks b ≡ Some true))

-- the first node, by number, from which a way leads back to itself
abbrev pub IsFirstOnCycle : List (List ℕ) → Option ℕ → Type 0
IsFirstOnCycle g None = (a : ℕ) → Leads g a a → ⊥
IsFirstOnCycle g (Some a) = Leads g a a × ((b : ℕ) → b < a → Leads g b b → ⊥)

-- A search along a path that is cut into parts.
use Rattle.std.specs.Prelude.{◌≡◌, ℕ, ◌+◌, ◌<◌, ◌≤◌, ◌⊎◌, ◌↔◌, Bool, true, false, List, [], ◌∷◌, Some, Contains, slice_get, length}
use Rattle.type_reach.specs.Reach.{IsEdge, Leads}
use Rattle.type_reach.specs.Sources.{HasTarget}
use Rattle.type_reach.specs.declared.search.Stage.{Stage}
use Rattle.type_reach.specs.declared.search.Stage.TheVariants as stage
use Rattle.type_reach.specs.declared.search.Part.{Part}
use Rattle.type_reach.specs.declared.search.Search.{Search}
use Rattle.type_reach.specs.Spread.{left}

-- the nodes are one, or a way leads from the first to the second
abbrev pub Ways : List (List ℕ) → ℕ → ℕ → Type 0
Ways g a b = (a ≡ b) ⊎ Leads g a b

abbrev pub IsDone : List Stage → ℕ → Type 0
IsDone stages a = (c : Bool) × (slice_get stages a ≡ Some (stage.Done c))

-- the second place of the path is in the part of the first or in one behind it
abbrev pub IsAhead : List Part → (i j : ℕ) → Type 0
IsAhead parts i j = (k : ℕ) (p : Part) → slice_get parts k ≡ Some p → p.node ≤ i → p.node ≤ j

-- a place among the targets is in the part of a place of the path or in one behind it
abbrev pub IsTargetAhead : List Part → (i e : ℕ) → Type 0
IsTargetAhead parts i e = (k : ℕ) (p : Part) → slice_get parts k ≡ Some p → p.node ≤ i → p.target ≤ e

-- and the other way round
abbrev pub IsSourceAhead : List Part → (e i : ℕ) → Type 0
IsSourceAhead parts e i = (k : ℕ) (p : Part) → slice_get parts k ≡ Some p → p.target ≤ e → p.node ≤ i

-- The target of a place of the path is done, in the path, or still to be followed.
abbrev pub IsMet : List Stage → List ℕ → List Part → (i b : ℕ) → Type 0
IsMet stages targets parts i b =
    IsDone stages b
    ⊎ ((j : ℕ) × (slice_get stages b ≡ Some (stage.Open j)) × IsAhead parts i j)
    ⊎ ((e : ℕ) × (slice_get targets e ≡ Some b) × IsTargetAhead parts i e)

-- The search so far: how far it has come with each node, the open nodes, which are the path, the targets that are still to be followed, and the parts of both.
pub record IsSearch (g : List (List ℕ)) (stages : List Stage) (path targets : List ℕ) (parts : List Part) : Type 0 where
  pub size : length stages ≡ length g
  pub at : (i a : ℕ) → slice_get path i ≡ Some a → slice_get stages a ≡ Some (stage.Open i)
  pub place : (a i : ℕ) → slice_get stages a ≡ Some (stage.Open i) → slice_get path i ≡ Some a
  pub chain : (i j a b : ℕ) → slice_get path i ≡ Some a → slice_get path j ≡ Some b → IsAhead parts i j → Ways g a b
  pub sorted : (k l : ℕ) (p q : Part) → k ≤ l → slice_get parts k ≡ Some p → slice_get parts l ≡ Some q → (p.node ≤ q.node) × (p.target ≤ q.target)
  pub within : (k : ℕ) (p : Part) → slice_get parts k ≡ Some p → (p.node ≤ length path) × (p.target ≤ length targets)
  pub covered : (i a : ℕ) → slice_get path i ≡ Some a → (k : ℕ) × (p : Part) × (slice_get parts k ≡ Some p) × (p.node ≤ i)
  pub source : (e b : ℕ) → slice_get targets e ≡ Some b → (i a : ℕ) × (slice_get path i ≡ Some a) × HasTarget g a b × IsSourceAhead parts e i × IsTargetAhead parts i e
  pub met : (a b i : ℕ) → IsEdge g a b → slice_get stages a ≡ Some (stage.Open i) → IsMet stages targets parts i b
  pub closed : (a b : ℕ) (c : Bool) → IsEdge g a b → slice_get stages a ≡ Some (stage.Done c) → IsDone stages b
  pub right : (a : ℕ) (c : Bool) → slice_get stages a ≡ Some (stage.Done c) → (c ≡ true) ↔ Leads g a a

-- nodes that lead to each other lead to themselves: there are two, or there is one that is its own target
abbrev pub IsCycle : List (List ℕ) → List ℕ → Type 0
IsCycle g nodes = (1 < length nodes) ⊎ ((a : ℕ) × (nodes ≡ a ∷ []) × HasTarget g a a)

-- no node is new again
abbrev pub KeepsMet : List Stage → List Stage → Type 0
KeepsMet old new = (a : ℕ) → slice_get new a ≡ Some stage.New → slice_get old a ≡ Some stage.New

-- the nodes have the stage, and all others are as they were
pub record IsSet (old now : List Stage) (x : Stage) (nodes : List ℕ) : Type 0 where
  pub size : length now ≡ length old
  pub set : (a : ℕ) → Contains nodes a → a < length old → slice_get now a ≡ Some x
  pub kept : (a : ℕ) → (Contains nodes a → ⊥) → slice_get now a ≡ slice_get old a

abbrev pub Searches : List (List ℕ) → Search → Type 0
Searches g s = IsSearch g s.stages.items s.path.items s.targets.items s.parts.items

abbrev pub is_new : Stage → Bool
is_new stage.New = true
is_new (stage.Open i) = false
is_new (stage.Done c) = false

abbrev pub is_on_cycle : Stage → Bool
is_on_cycle stage.New = false
is_on_cycle (stage.Open i) = false
is_on_cycle (stage.Done c) = c

-- how many steps are left at most
abbrev pub work : List (List ℕ) → Search → ℕ
work g s = left is_new s.stages.items g + (length s.targets.items + length s.parts.items)

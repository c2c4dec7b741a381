-- A search from marked nodes against the edges.
use Rattle.std.specs.Prelude.{◌≡◌, ℕ, ◌+◌, ◌<◌, ◌⊎◌, Bool, cond, true, List, [], ◌∷◌, Some, Contains, slice_get, length}
use Rattle.type_reach.specs.Reach.{IsEdge, Reaches}

-- the nodes that were reached, and those that wait: each edge to a reached node comes from a reached one or from one that waits
pub record IsSpread (g : List (List ℕ)) (marks reached : List Bool) (waiting : List ℕ) : Type 0 where
  pub size : length reached ≡ length g
  pub sound : (a : ℕ) → slice_get reached a ≡ Some true → Reaches g marks a
  pub due : (a : ℕ) → Contains waiting a → Reaches g marks a
  pub marked : (a : ℕ) → a < length g → slice_get marks a ≡ Some true → (slice_get reached a ≡ Some true) ⊎ Contains waiting a
  pub closed : (a b : ℕ) → IsEdge g a b → slice_get reached b ≡ Some true → (slice_get reached a ≡ Some true) ⊎ Contains waiting a

-- what is still to be done: the rows of the nodes that are new, and two more for each of them
abbrev pub left : {A : Type 0} → (A → Bool) → List A → List (List ℕ) → ℕ
left new [] rows = 0
left new (x ∷ xs) [] = 0
left new (x ∷ xs) (row ∷ rows) = cond (new x) (length row + 2) 0 + left new xs rows

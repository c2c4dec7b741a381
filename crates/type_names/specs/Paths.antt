-- The numbers of packages, and the tree of names by which they are found: a node and a name lead to the next node. A map is seen as its entries.
use Rattle.std.specs.Prelude.{◌≡◌, ℕ, ◌<◌, ◌≤◌, Bool, nat_eq, List, [], ◌∷◌, length, Option, Some, slice_get}
use Rattle.std.specs.List.{position_from}
use Rattle.std.specs.Map.{lookup}
use Rattle.std.specs.HashMap.{get}
use Rattle.std.specs.Option.{option_and_then, unwrap_or}
use Rattle.java_tree.specs.declared.tree.Name.{Name}
use Rattle.type_names.specs.contracts.paths.StepPartialEq.TheImpl.{eq-value}
use Rattle.type_names.specs.declared.paths.Step.{Step}
use Rattle.type_names.specs.declared.paths.Tree.{Tree}
use Rattle.type_names.specs.Sees.{same_path}

-- the number of a package: its first place among them
abbrev pub number_in : List (List Name) → List Name → Option ℕ
number_in ps path = position_from (λ p. same_path p path) 0 ps

abbrev pub place_in : List (List Name) → List Name → ℕ
place_in ps path = unwrap_or (number_in ps path) 0

abbrev pub HasPath : List (List Name) → List Name → Type 0
HasPath ps path = (i : ℕ) × (slice_get ps i ≡ Some path)

-- ---- steps

abbrev pub Steps : Type 0
Steps = List (Step × ℕ)

-- what `==` answers
abbrev pub same_step : Step → Step → Bool
same_step = eq-value.it

abbrev pub found_in : Steps → Step → Option ℕ
found_in m k = lookup (same_step k) m

abbrev pub next_in : Steps → ℕ → ℕ → Option ℕ
next_in m s x = found_in m (record { after = s; name = x })

-- the node at which a path from a node ends
abbrev pub reached : (ℕ → ℕ → Option ℕ) → Option ℕ → List Name → Option ℕ
reached next o [] = o
reached next o (x ∷ xs) = reached next (option_and_then (λ s. next s x.0) o) xs

-- No two steps lead to one node, and none to that of the empty path.
pub record AreSteps (find : Step → Option ℕ) (count : ℕ) : Type 0 where
  pub some : (k : Step) (n : ℕ) → find k ≡ Some n → 0 < n
  pub below : (k : Step) (n : ℕ) → find k ≡ Some n → n ≤ count
  pub apart : (j k : Step) (n : ℕ) → find j ≡ Some n → find k ≡ Some n → j ≡ k

abbrev pub HasSteps : Steps → Type 0
HasSteps m = AreSteps (found_in m) (length m)

-- each step leads where it led
abbrev pub Keeps : Steps → Steps → Type 0
Keeps old new = (k : Step) (n : ℕ) → found_in old k ≡ Some n → found_in new k ≡ Some n

-- ---- the tree

-- the node at which a path ends
abbrev pub end_in : Tree → List Name → Option ℕ
end_in t path = reached (next_in t.steps.entries) (Some 0) path

abbrev pub place_at : Tree → ℕ → Option ℕ
place_at t n = get nat_eq t.places n

-- The tree of a list of paths: the places that it has at nodes are the numbers of the paths that end there, and it has those of all of them.
pub record IsTree (ps : List (List Name)) (t : Tree) : Type 0 where
  pub steps : HasSteps t.steps.entries
  pub real : (n k : ℕ) → place_at t n ≡ Some k → (path : List Name) × (end_in t path ≡ Some n) × (number_in ps path ≡ Some k)
  pub all : (path : List Name) (k : ℕ) → number_in ps path ≡ Some k → (n : ℕ) × (end_in t path ≡ Some n) × (place_at t n ≡ Some k)

-- One program, run within different bounds.
use Rattle.std.specs.Prelude.{◌≡◌, ℕ, ◌≤◌, true, List, ◌++◌}
use Rattle.core_meaning.specs.declared.values.End.TheVariants.{AtBound}
use Rattle.core_meaning.specs.Code.{Code}
use Rattle.core_meaning.specs.Runs.{Result, result_of, run}

-- the first list, and something behind it
abbrev pub IsPrefix : List ℕ → List ℕ → Type 0
IsPrefix xs ys = (rest : List ℕ) × (ys ≡ xs ++ rest)

-- The second result goes on from the first: what is printed and entered is a prefix, what went wrong stays so, and what was not cut off at its bound is the same.
pub record GoesOn (r r' : Result) : Type 0 where
  pub printed : IsPrefix r.printed r'.printed
  pub entered : IsPrefix r.entered r'.entered
  pub wrong : r.wrong ≡ true → r'.wrong ≡ true
  pub ended : (r.end ≡ AtBound → ⊥) → r' ≡ r

-- within a larger bound a run goes on from where it ends within a smaller one
abbrev pub RunsGoOn : Type 0
RunsGoOn = (c : Code) (class : ℕ) (args : List (List ℕ)) (n m : ℕ) → n ≤ m → GoesOn (result_of (run c class args n)) (result_of (run c class args m))

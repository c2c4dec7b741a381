-- When two programs behave alike.
use Rattle.std.specs.Prelude.{◌≡◌, ℕ, ◌⊎◌, Bool, true, false, List, map, Some}
use Rattle.core_meaning.specs.declared.values.End.{End}
use Rattle.core_meaning.specs.declared.values.End.TheVariants as end
use Rattle.core_meaning.specs.Code.{Code}
use Rattle.core_meaning.specs.Runs.{Result, result_of, run, main_of}
use Rattle.program_maps.specs.Ways.{Ways}
use Rattle.program_maps.specs.Pairs.{Pair}
use Rattle.program_maps.specs.Correspond.{Correspond}

abbrev pub moved_end : Ways → End → End
moved_end φ end.Normal = end.Normal
moved_end φ (end.Threw k) = end.Threw (φ.types k)
moved_end φ end.AtBound = end.AtBound

-- the same bytes, the same methods, and the same end, through the map
pub record SameResult (φ : Ways) (r r' : Result) : Type 0 where
  pub printed : r'.printed ≡ r.printed
  pub entered : r'.entered ≡ map φ.methods r.entered
  pub end : r'.end ≡ moved_end φ r.end
  pub wrong : r'.wrong ≡ r.wrong

-- all runs count, or those in which nothing goes wrong
abbrev pub IsCounted : (strict : Bool) → Result → Type 0
IsCounted strict r = (strict ≡ true) ⊎ (r.wrong ≡ false)

-- from each class that declares a main method, for all arguments and every bound
abbrev pub BehaveAlike : Ways → (strict : Bool) → (c c' : Code) → Type 0
BehaveAlike φ strict c c' =
    (k m : ℕ) → main_of c k ≡ Some m → (args : List (List ℕ)) (n : ℕ)
    → IsCounted strict (result_of (run c k args n)) → SameResult φ (result_of (run c k args n)) (result_of (run c' (φ.types k) args n))

-- programs that correspond behave alike
abbrev pub CorrespondingAlike : Type 0
CorrespondingAlike = (p : Pair) (c c' : Code) → Correspond p c c' → BehaveAlike p.ways p.strict c c'

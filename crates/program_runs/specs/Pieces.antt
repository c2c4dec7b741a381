-- Pieces of a run, each with a stack of its own.
use Rattle.std.specs.Prelude.{◌≡◌, ℕ, [], ◌∷◌, Result, IfOk}
use Rattle.core_meaning.specs.declared.values.State.{State}
use Rattle.core_meaning.specs.declared.values.Value.{Value}
use Rattle.core_meaning.specs.declared.values.Value.TheVariants as v
use Rattle.core_meaning.specs.Outcome.{Outcome, and_then, with_some}
use Rattle.core_meaning.specs.Code.{Code}
use Rattle.core_meaning.specs.Variables.{Place}
use Rattle.core_meaning.specs.Calls.{place_at}
use Rattle.core_meaning.specs.Runs.{main_of}
use Rattle.running_code.specs.declared.running.Running.{Running}
use Rattle.running_code.specs.Running.{IsCode}
use Rattle.run_frames.specs.declared.focus.Answer.{Answer}
use Rattle.run_frames.specs.Frames.{valued}
use Rattle.program_runs.specs.declared.runs.Base.{Base}
use Rattle.program_runs.specs.declared.runs.Piece.{Piece}
use Rattle.program_runs.specs.Ends.{ended_as}

-- a piece ended as the program says
abbrev pub Pieces : {E : Type 0} → Running → Base → Result Piece E → (Place → Outcome Answer) → Type 0
Pieces g base r o = (c : Code) → IsCode g c → IfOk r (λ x. ended_as x.ended x.state ≡ o (place_at c base.depth base.class))

-- the run ended as the program says
abbrev pub Runs : {E : Type 0} → Running → Result Piece E → (Code → Outcome Value) → Type 0
Runs g r o = (c : Code) → IsCode g c → IfOk r (λ x. ended_as x.ended x.state ≡ valued (o c))

-- a class is initialised, and its main method runs
abbrev pub begun : Place → (class : ℕ) → State → Outcome Value
begun p k s = and_then (p.initialise k s) (λ u s. with_some (main_of p.code k) s (λ m. p.call m v.Null (v.Ref 1 ∷ []) s))

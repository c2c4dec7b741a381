-- How a run on its way ends, and what comes behind a step of it.
use Rattle.std.specs.Prelude.{◌≡◌, ℕ, List, ◌++◌, map, Option, Some, None, Result, IfOk, OnOk}
use Rattle.java_core.specs.declared.stmt.CoreCatch.{CoreCatch}
use Rattle.java_core.specs.View.{catch_plain, catch_row}
use Rattle.core_meaning.specs.declared.values.Ending.{Ending}
use Rattle.core_meaning.specs.Variables.{Place}
use Rattle.core_meaning.specs.Statements.{caught}
use Rattle.run_frames.specs.declared.focus.Answer.TheVariants as an
use Rattle.core_meaning.specs.declared.values.State.{State}
use Rattle.core_meaning.specs.Outcome.{Outcome, Gives, Threw, Bound}
use Rattle.core_meaning.specs.Code.{Code}
use Rattle.running_code.specs.declared.running.Running.{Running}
use Rattle.running_code.specs.Running.{IsCode}
use Rattle.run_frames.specs.declared.focus.Answer.{Answer}
use Rattle.run_frames.specs.declared.focus.Focus.{Focus}
use Rattle.run_frames.specs.declared.focus.Focus.TheVariants as focus
use Rattle.run_frames.specs.declared.run.Run.{Run}
use Rattle.run_frames.specs.declared.waits.Waits.{Waits}
use Rattle.run_frames.specs.Frames.{class_below, depth_below, on, resumed}
use Rattle.run_frames.specs.Runs.{place_of, whole}
use Rattle.program_runs.specs.declared.ended.Ended.{Ended}
use Rattle.program_runs.specs.declared.ended.Ended.TheVariants as ended
use Rattle.program_runs.specs.declared.ended.Next.{Next}
use Rattle.program_runs.specs.declared.ended.Next.TheVariants as next

abbrev pub ended_as : Ended → State → Outcome Answer
ended_as (ended.Gave a) s = Gives a s
ended_as (ended.Threw k) s = Threw k s
ended_as ended.Bound s = Bound s

abbrev pub comes_next : Code → Run → Next → Outcome Answer
comes_next c r (next.Goes x) = whole c r x
comes_next c r (next.Ends e) = ended_as e r.state

-- what comes of an outcome that what was on the top of the stack waited for
abbrev pub below : Code → Run → Waits → Outcome Answer → Outcome Answer
below c r w o = resumed c (depth_below r.depth w) (class_below r.class w) r.stack (on (place_of c r) w o)

-- What was on the top of the stack does something with an outcome, and nothing else changes.
abbrev pub Resumes : {E : Type 0} → Running → (old : Run) → Waits → Result Focus E → (new : Run) → (State → Outcome Answer) → Type 0
Resumes g old w r new o = (c : Code) → IsCode g c → IfOk r (λ x. whole c new x ≡ below c old w (o old.state))

-- a step of what was to be done
abbrev pub Proceeds : {E : Type 0} → Running → (old : Run) → Focus → Result Next E → (new : Run) → Type 0
Proceeds g old x r new = (c : Code) → IsCode g c → IfOk r (λ n. comes_next c new n ≡ whole c old x)

-- all steps of it
abbrev pub RunsOut : {E : Type 0} → Running → (old : Run) → Focus → Result Ended E → (new : Run) → Type 0
RunsOut g old x r new = (c : Code) → IsCode g c → IfOk r (λ e. ended_as e new.state ≡ whole c old x)

-- the same where no step is left, whatever the program
abbrev pub Stops : (old : Run) → Waits → Focus → (new : Run) → Type 0
Stops old w x new = (c : Code) → whole c new x ≡ below c old w (Bound old.state)

abbrev pub EndsAtBound : (old : Run) → Next → (new : Run) → Type 0
EndsAtBound old n new = (c : Code) → comes_next c new n ≡ whole c old focus.AtBound

-- what is put behind a list of bytes
abbrev pub Adds : {A E : Type 0} → Running → Result A E → (old new : List ℕ) → (Code → List ℕ) → Type 0
Adds g r old new more = (c : Code) → IsCode g c → OnOk r (new ≡ old ++ more c)

-- ---- answers at a try

abbrev pub ending_in : Answer → Option Ending
ending_in (an.Ending e) = Some e
ending_in _ = None

abbrev pub caught_by : List CoreCatch → Place → (thrown : ℕ) → State → Outcome Ending
caught_by cs p k s = caught p k (catch_row (map catch_plain cs)) s

-- What a step of a program leads to.
use Rattle.std.specs.Prelude.{Result}
use Rattle.core_meaning.specs.declared.values.State.{State}
use Rattle.core_meaning.specs.Outcome.{Outcome}
use Rattle.core_meaning.specs.Variables.{Place}
use Rattle.running_code.specs.declared.running.Running.{Running}
use Rattle.running_code.specs.Running.{IsCode}
use Rattle.run_frames.specs.declared.focus.Answer.{Answer}
use Rattle.run_frames.specs.declared.focus.Focus.{Focus}
use Rattle.run_frames.specs.declared.run.Run.{Run}
use Rattle.run_frames.specs.Runs.{Steps}

-- for whatever is told of the program
abbrev pub Does : {E : Type 0} → Running → (old : Run) → Result Focus E → (new : Run) → (Place → State → Outcome Answer) → Type 0
Does g old r new o = Steps (IsCode g) old r new o

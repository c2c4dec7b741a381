-- What is reported of a run, by the code of the program.
use Rattle.std.specs.Prelude.{◌≡◌, ℕ, List, Option, Some, None, unwrap_or, Result, IfOk}
use Rattle.core_meaning.specs.declared.values.End.{End}
use Rattle.core_meaning.specs.declared.values.End.TheVariants as end
use Rattle.core_meaning.specs.declared.values.State.{State}
use Rattle.core_meaning.specs.declared.values.Value.TheVariants as v
use Rattle.core_meaning.specs.BuiltIns.{object_class}
use Rattle.core_meaning.specs.Classes.{class_of}
use Rattle.core_meaning.specs.Code.{Code}
use Rattle.core_meaning.specs.Runs.{main_class}
use Rattle.running_code.specs.declared.running.Running.{Running}
use Rattle.running_code.specs.Running.{IsCode}
use Rattle.program_runs.specs.declared.answer.RunAnswer.{RunAnswer}
use Rattle.program_runs.specs.declared.answer.RunAnswer.TheVariants as answer
use Rattle.program_runs.specs.declared.ended.Ended.{Ended}
use Rattle.program_runs.specs.declared.ended.Ended.TheVariants as ended
use Rattle.program_runs.specs.Told.{EndsSo}

abbrev pub ended_end : Ended → State → End
ended_end (ended.Gave a) s = end.Normal
ended_end (ended.Threw k) s = end.Threw (unwrap_or (class_of (v.Ref k) s) object_class)
ended_end ended.Bound s = end.AtBound

-- the answer for a class, if there is one
abbrev pub Answers : Code → (class : Option ℕ) → (args : List (List ℕ)) → (steps : ℕ) → RunAnswer → Type 0
Answers c class args n answer.NoMain = class ≡ None
Answers c class args n (answer.Ran text end) = EndsSo c class args n text end

abbrev pub Reports : {E : Type 0} → Running → Result RunAnswer E → (class : ℕ) → (args : List (List ℕ)) → (steps : ℕ) → Type 0
Reports g r class args n = (c : Code) → IsCode g c → IfOk r (Answers c (Some class) args n)

abbrev pub ReportsNamed : {E : Type 0} → Running → Result RunAnswer E → (users : ℕ) → (name : List ℕ) → (args : List (List ℕ)) → (steps : ℕ) → Type 0
ReportsNamed g r users name args n = (c : Code) → IsCode g c → IfOk r (Answers c (main_class c users name) args n)

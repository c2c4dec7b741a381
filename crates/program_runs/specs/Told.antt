-- What is told of a run.
use Rattle.std.specs.Prelude.{◌≡◌, ℕ, List, Option, Some, None}
use Rattle.class_world.specs.declared.world.World.{World}
use Rattle.java_core.specs.Plain as e
use Rattle.core_meaning.specs.declared.values.End.{End}
use Rattle.core_meaning.specs.Code.{Code, IsTold}
use Rattle.core_meaning.specs.Runs.{Result, main_class, report, result_of, run}
use Rattle.running_code.specs.Running.{HaveOneSuperclass}
use Rattle.program_runs.specs.declared.answer.RunAnswer.{RunAnswer}
use Rattle.program_runs.specs.declared.answer.RunAnswer.TheVariants as answer

-- a program with this world, these texts of names and this core, as it runs
pub record IsCodeOf (w : World) (texts : List (List ℕ)) (program : e.Program) (c : Code) : Type 0 where
  pub world : c.world ≡ w
  pub names : c.names ≡ texts
  pub core : c.core ≡ program
  pub told : IsTold c
  pub single : HaveOneSuperclass w

abbrev pub IsReported : Code → Result → (report : List ℕ) → End → Type 0
IsReported c r text end = (text ≡ report c r) × (end ≡ r.end)

-- the run of a class, if there is one
abbrev pub EndsSo : Code → (class : Option ℕ) → (args : List (List ℕ)) → (steps : ℕ) → (report : List ℕ) → End → Type 0
EndsSo c None args n text end = ⊥
EndsSo c (Some k) args n text end = IsReported c (result_of (run c k args n)) text end

-- what a run of the main method of a class of this name answers, with these arguments, within so many steps
abbrev pub IsRun : World → (names : List (List ℕ)) → e.Program → (users : ℕ) → (class : List ℕ) → (args : List (List ℕ)) → (steps : ℕ) → RunAnswer → Type 0
IsRun w names core users class args n answer.NoMain = (c : Code) → IsCodeOf w names core c → main_class c users class ≡ None
IsRun w names core users class args n (answer.Ran text end) = (c : Code) → IsCodeOf w names core c → EndsSo c (main_class c users class) args n text end

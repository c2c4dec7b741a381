-- What a run answers, as the code has it.
use Rattle.std.specs.Prelude.{◌≡◌, ℕ, List, length, map, Option, Result, Ok, Err, IfOk, codes}
use Rattle.std.specs.String.{string_bytes}
use Rattle.java_tree.specs.declared.fault.NoMemory.{NoMemory}
use Rattle.java_core.specs.Plain as e
use Rattle.java_core.specs.View.{program_plain}
use Rattle.class_world.specs.declared.world.World.{World}
use Rattle.report_text.specs.Report.{refused}
use Rattle.program_runs.specs.declared.answer.RunAnswer.{RunAnswer}
use Rattle.program_runs.specs.declared.answer.RunAnswer.TheVariants as run
use Rattle.program_runs.specs.Told.{IsRun}
use Rattle.refactor_app.specs.declared.asked.AskedRun.{AskedRun}
use Rattle.refactor_app.specs.declared.status.Status.{Status}
use Rattle.refactor_app.specs.declared.status.Status.TheVariants as s
use Rattle.refactor_app.specs.declared.check.CheckAnswer.{CheckAnswer}
use Rattle.refactor_app.specs.declared.check.CheckAnswer.TheVariants as answer
use Rattle.refactor_app.specs.Answers.{Ends}
use Rattle.refactor_app.specs.Running.{run_status}

-- what the run of a core answers that the words ask for, with this world and this table of names
abbrev pub IsRunAnswer : World → (table : List (List ℕ)) → AskedRun → e.Program → RunAnswer → Type 0
IsRunAnswer w table r core = IsRun w table core (length r.inputs.users.now) r.class.now (map string_bytes r.args.now) r.steps

-- the answer of a run is put
abbrev pub EndsRun : Option (List ℕ) → Option (List ℕ) → ℕ → ℕ → Result RunAnswer NoMemory → Status → Type 0
EndsRun before after faults now (Ok run.NoMain) status = Ends before after faults now (refused (codes "S24")) s.Refused status
EndsRun before after faults now (Ok (run.Ran line how)) status = Ends before after faults now line (run_status how) status
EndsRun before after faults now (Err e) status = (status ≡ s.NoMemory) × (after ≡ before)

-- the answer of a run is put that a check went before, or that of the check
abbrev pub RunsSo : World → (table : List (List ℕ)) → AskedRun → Option (List ℕ) → Option (List ℕ) → ℕ → ℕ → CheckAnswer → Status → Type 0
RunsSo w table r before after faults now (answer.Refused line) status = Ends before after faults now (string_bytes line) s.Refused status
RunsSo w table r before after faults now (answer.Passed report checked) status =
    (x : Result RunAnswer NoMemory) × IfOk x (IsRunAnswer w table r (program_plain checked.core)) × EndsRun before after faults now x status

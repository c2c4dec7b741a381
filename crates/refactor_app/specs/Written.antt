-- How a change or an extraction ends, as the code has it.
use Rattle.std.specs.Prelude.{◌≡◌, ℕ, List, Option, Result, Ok, Err, IfOk}
use Rattle.std.specs.String.{string_bytes}
use Rattle.java_tree.specs.Plain.{SourceUnit}
use Rattle.java_tree.specs.declared.fault.NoMemory.{NoMemory}
use Rattle.class_world.specs.declared.world.World.{World}
use Rattle.decl_table.specs.Program.{Program}
use Rattle.tool_files.specs.Told.{Look}
use Rattle.refactor_app.specs.declared.check.CheckAnswer.{CheckAnswer}
use Rattle.refactor_app.specs.declared.check.CheckAnswer.TheVariants as answer
use Rattle.refactor_app.specs.declared.decide.Verdict.{Verdict}
use Rattle.refactor_app.specs.declared.decide.Verdict.TheVariants as v
use Rattle.refactor_app.specs.declared.status.Status.{Status}
use Rattle.refactor_app.specs.declared.status.Status.TheVariants as s
use Rattle.refactor_app.specs.Words.{ExtractRequest, Request}
use Rattle.refactor_app.specs.Answers.{Ends}
use Rattle.refactor_app.specs.Course.{Finishes}
use Rattle.refactor_app.specs.Decided.{Decides, DecidesExtract}

module _ (old new : Option Look) (writes written : ℕ) (before after : Option (List ℕ)) (faults now : ℕ) where
  -- the new files are written and the report is put, or the report of types or what stands against the question is put
  abbrev pub EndsVerdict : Result Verdict NoMemory → Status → Type 0
  EndsVerdict (Ok (v.Refused line)) status = (new ≡ old) × Ends before after faults now (string_bytes line) s.Refused status
  EndsVerdict (Ok (v.Changed outputs report)) status = Finishes outputs old new writes written report.items (Ends before after faults now) status
  EndsVerdict (Ok (v.Listed report)) status = (new ≡ old) × Ends before after faults now (string_bytes report) s.Done status
  EndsVerdict (Err e) status = (status ≡ s.NoMemory) × (new ≡ old) × (after ≡ before)

  -- of files of which a check answered this
  abbrev pub ChangesSo : Request → (texts table : List (List ℕ)) → List SourceUnit → Program → World → CheckAnswer → Status → Type 0
  ChangesSo q texts table units p w (answer.Refused line) status = (new ≡ old) × Ends before after faults now (string_bytes line) s.Refused status
  ChangesSo q texts table units p w (answer.Passed report checked) status =
      (x : Result Verdict NoMemory) × IfOk x (Decides q texts table units p w checked) × EndsVerdict x status

  -- of an extraction from such files
  abbrev pub ExtractsSo : ExtractRequest → (texts table : List (List ℕ)) → List SourceUnit → World → CheckAnswer → Status → Type 0
  ExtractsSo q texts table units w (answer.Refused line) status = (new ≡ old) × Ends before after faults now (string_bytes line) s.Refused status
  ExtractsSo q texts table units w (answer.Passed report checked) status =
      (x : Result Verdict NoMemory) × IfOk x (DecidesExtract q texts table units w checked) × EndsVerdict x status

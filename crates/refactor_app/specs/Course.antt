-- The ways that a call goes, each with what it puts last and how it ends.
use Rattle.std.specs.Prelude.{◌≡◌, ℕ, ◌≤◌, ◌⊎◌, List, [], ◌∷◌, Option, Some, slice_get}
use Rattle.std.specs.String.{string_bytes}
use Rattle.refactor_app.specs.declared.decide.Output.{Output}
use Rattle.tool_files.specs.Told.{Look, Rose, SameBut, WhereTold, PutsAt}
use Rattle.command_words.specs.Rules.{IsLowest}
use Rattle.core_meaning.specs.declared.values.End.{End}
use Rattle.source_files.specs.Held.{StopsAt, Missing, Failed}
use Rattle.report_text.specs.Report.{usage, types_report, missing, read_fault, write_fault}
use Rattle.refactor_app.specs.declared.status.Status.{Status}
use Rattle.refactor_app.specs.declared.status.Status.TheVariants as s
use Rattle.refactor_app.specs.Words.{Files, Request, inputs}
use Rattle.refactor_app.specs.declared.check.CheckAnswer.{CheckAnswer}
use Rattle.refactor_app.specs.declared.check.CheckAnswer.TheVariants as answer
use Rattle.refactor_app.specs.Writes.{Writes, FailsAt, Writing}
use Rattle.refactor_app.specs.Refusals.{AsksFew, Refusal}
use Rattle.refactor_app.specs.Checking.{Passes}
use Rattle.refactor_app.specs.Running.{Runs, run_status}
use Rattle.refactor_app.specs.Answers.{AreTypes, IsAsked, Ends}

-- The files before and after, what was put before and after, and each count before and after.
pub record Moment : Type 0 where
  pub holds : Option Look
  pub misses : ℕ
  pub read_faults : ℕ
  pub write_faults : ℕ
  pub put : Option (List ℕ)
  pub faults : ℕ

abbrev pub EndsAt : Moment → Moment → List ℕ → Status → Status → Type 0
EndsAt a b = Ends a.put b.put a.faults b.faults

-- the answer of a check is put
abbrev pub EndsWith : Option (List ℕ) → Option (List ℕ) → ℕ → ℕ → CheckAnswer → Status → Type 0
EndsWith before after faults now (answer.Refused line) status = Ends before after faults now (string_bytes line) s.Refused status
EndsWith before after faults now (answer.Passed report checked) status = Ends before after faults now (string_bytes report) s.Done status

pub data Course (words : List (List ℕ)) (a b : Moment) (status : Status) : Type 0 where
  usages : {rule : ℕ} → IsLowest words rule → b.holds ≡ a.holds → EndsAt a b (usage rule) s.Usage status → Course words a b status
  absent : {fs : Files} (k : ℕ) (name : List ℕ) → AsksFew words fs → slice_get (inputs fs) k ≡ Some name → StopsAt a.holds 0 (inputs fs) k Missing → Rose a.misses b.misses
      → b.holds ≡ a.holds → EndsAt a b (missing name) s.Missing status → Course words a b status
  unread : {fs : Files} (k : ℕ) (name : List ℕ) → AsksFew words fs → slice_get (inputs fs) k ≡ Some name → StopsAt a.holds 0 (inputs fs) k Failed → Rose a.read_faults b.read_faults
      → b.holds ≡ a.holds → EndsAt a b (read_fault name) s.ReadFault status → Course words a b status
  refuses : {line : List ℕ} → Refusal words a.holds line → b.holds ≡ a.holds → EndsAt a b line s.Refused status → Course words a b status
  checks : {line : List ℕ} → Passes words a.holds line → b.holds ≡ a.holds → EndsAt a b line s.Done status → Course words a b status
  runs : {line : List ℕ} (how : End) → Runs words a.holds line how → b.holds ≡ a.holds → EndsAt a b line (run_status how) status → Course words a b status
  writes : {x : Writing} → IsAsked words a.holds x → Writes x.names x.texts a.holds b.holds → EndsAt a b x.report s.Done status → Course words a b status
  lists : {q : Request} {types : List (List ℕ)} → AreTypes words a.holds q types → b.holds ≡ a.holds → EndsAt a b (types_report types) s.Done status → Course words a b status
  fails : {x : Writing} (name : List ℕ) → IsAsked words a.holds x → FailsAt x.names x.texts name a.holds b.holds
      → Rose a.write_faults b.write_faults → EndsAt a b (write_fault name) s.WriteFault status → Course words a b status
  no_memory : b.holds ≡ a.holds → b.put ≡ a.put → status ≡ s.NoMemory → Course words a b status

-- all writes went well and the report is put, or one failed and its fault is
abbrev pub Finishes : (outputs : List Output) → (old new : Option Look) → (before after : ℕ) → (report : List ℕ) → (List ℕ → Status → Status → Type 0) → Status → Type 0
Finishes [] old new before after report ends status = (new ≡ old) × ends report s.Done status
Finishes (o ∷ os) old new before after report ends status =
    ((now : Option Look) × (faults : ℕ) × (before ≤ faults) × WhereTold old now (PutsAt (string_bytes o.name) o.text) × Finishes os now new faults after report ends status)
    ⊎ (WhereTold old new (SameBut (string_bytes o.name)) × Rose before after × ends (string_bytes o.fault) s.WriteFault status)

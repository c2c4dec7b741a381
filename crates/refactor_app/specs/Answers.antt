-- What an answer of `refactor` says of the words, of what the files held and hold, and of what was put.
use Rattle.std.specs.Prelude.{◌≡◌, ℕ, ◌⊎◌, List, Option, Some, slice_get}
use Rattle.java_tree.specs.Plain.{SourceUnit}
use Rattle.tool_files.specs.Told.{Look, Rose, Appends, AppendsSome}
use Rattle.command_words.specs.Rules.{IsLowest}
use Rattle.changed_files.specs.declared.files.NewFiles.{NewFiles}
use Rattle.core_meaning.specs.declared.values.End.{End}
use Rattle.core_meaning.specs.declared.values.End.TheVariants as end
use Rattle.extract_interface.specs.declared.command.Answer.{Answer}
use Rattle.extract_interface.specs.declared.command.Answer.TheVariants as extract
use Rattle.extract_interface.specs.declared.command.Extracted.{Extracted}
use Rattle.source_files.specs.Held.{StopsAt, Missing, Failed}
use Rattle.refactor_app.specs.declared.status.Status.{Status}
use Rattle.refactor_app.specs.declared.status.Status.TheVariants as s
use Rattle.refactor_app.specs.Words.{ExtractRequest, Files, Request, inputs, Asks, AsksExtract}
use Rattle.report_text.specs.Report.{usage, change_report, types_report, missing, read_fault, write_fault}
use Rattle.refactor_app.specs.Changes.{IsAnswered, Said, Changed, Listed, change_writing, out_names, user_edits, user_texts}
use Rattle.refactor_app.specs.Extractions as extractions
use Rattle.refactor_app.specs.Extractions.{extract_writing}
use Rattle.refactor_app.specs.Writes.{Writes, FailsAt, Writing}
use Rattle.refactor_app.specs.Refusals.{AsksFew, HasChecked, Refusal}
use Rattle.refactor_app.specs.Checking.{Passes}
use Rattle.refactor_app.specs.Running.{Runs}

-- what is said of a place of files that break no rule, about which the words ask
pub record IsSaid (words : List (List ℕ)) (old : Option Look) (q : Request) (said : Said) : Type 0 where
  pub texts : List (List ℕ)
  pub names : List (List ℕ)
  pub units : List SourceUnit
  pub asks : Asks words q
  pub checked : HasChecked words old q.files texts names units
  pub says : IsAnswered q texts names units checked.declared.declared.program checked.declared.declared.world checked.core checked.operations said

abbrev pub IsChange : List (List ℕ) → Option Look → Request → NewFiles → Type 0
IsChange words old q new = IsSaid words old q (Changed new)

abbrev pub AreTypes : List (List ℕ) → Option Look → Request → (types : List (List ℕ)) → Type 0
AreTypes words old q types = IsSaid words old q (Listed types)

-- what is said of an extraction from files that break no rule, for which the words ask
pub record IsExtractSaid (words : List (List ℕ)) (old : Option Look) (q : ExtractRequest) (said : Answer) : Type 0 where
  pub texts : List (List ℕ)
  pub names : List (List ℕ)
  pub units : List SourceUnit
  pub asks : AsksExtract words q
  pub checked : HasChecked words old q.files texts names units
  pub says : extractions.IsAnswered q texts names units checked.declared.declared.world checked.core checked.operations said

abbrev pub IsExtraction : List (List ℕ) → Option Look → ExtractRequest → Extracted → Type 0
IsExtraction words old q made = IsExtractSaid words old q (extract.Extracted made)

-- what the words ask to be written: a change or an extraction
pub data IsAsked (words : List (List ℕ)) (old : Option Look) : Writing → Type 0 where
  change : (q : Request) (made : NewFiles) → IsChange words old q made → IsAsked words old (change_writing q made)
  extraction : (q : ExtractRequest) (made : Extracted) → (h : IsExtraction words old q made) → IsAsked words old (extract_writing q h.texts h.units made)

-- the contents before and after, and what was put before and after
module _ (words : List (List ℕ)) (old new : Option Look) (before after : Option (List ℕ)) where
  abbrev pub NothingWritten : Type 0
  NothingWritten = new ≡ old

  -- the whole report was put
  abbrev pub Puts : List ℕ → Type 0
  Puts report = Appends before after report

  -- the lowest rule that the words break
  pub record IsUsage : Type 0 where
    pub rule : ℕ
    pub lowest : IsLowest words rule
    pub report : Puts (usage rule)
    pub nothing : NothingWritten

  -- Done: each of the user's files is written with its edits, and the report tells these.
  pub record IsChangeDone : Type 0 where
    pub q : Request
    pub made : NewFiles
    pub change : IsChange words old q made
    pub written : Writes (out_names q) (user_texts q made) old new
    pub report : Puts (change_report q.files.users (user_edits q made))

  -- Done: each of the user's files is written with its edits, the new interface is written too, and the report tells these and the places that are kept.
  pub record IsExtractDone : Type 0 where
    pub q : ExtractRequest
    pub made : Extracted
    pub extraction : IsExtraction words old q made
    pub written : Writes (extractions.out_names q made) (extractions.out_texts q made) old new
    pub report : Puts (extractions.report_of q extraction.texts extraction.units made)

  -- Done: the files that are checked break no rule.
  pub record IsCheckDone : Type 0 where
    pub line : List ℕ
    pub passes : Passes words old line
    pub report : Puts line
    pub nothing : NothingWritten

  -- the run of the files ended so
  pub record IsRunEnded (how : End) : Type 0 where
    pub line : List ℕ
    pub runs : Runs words old line how
    pub report : Puts line
    pub nothing : NothingWritten

  -- Done: the run ended normally.
  abbrev pub IsRunDone : Type 0
  IsRunDone = IsRunEnded end.Normal

  -- Done: these are the types to which a place may go.
  pub record IsTypesDone : Type 0 where
    pub q : Request
    pub types : List (List ℕ)
    pub are : AreTypes words old q types
    pub report : Puts (types_report types)
    pub nothing : NothingWritten

  abbrev pub IsDone : Type 0
  IsDone = IsChangeDone ⊎ IsCheckDone ⊎ IsRunDone ⊎ IsTypesDone ⊎ IsExtractDone

  -- the run ended with a thrown object of this class
  pub record IsThrew : Type 0 where
    pub class : ℕ
    pub ended : IsRunEnded (end.Threw class)

  -- the run ended where no step was left
  abbrev pub IsBound : Type 0
  IsBound = IsRunEnded end.AtBound

  -- the first rule that stands against the words and the files
  pub record IsRefused : Type 0 where
    pub line : List ℕ
    pub refusal : Refusal words old line
    pub report : Puts line
    pub nothing : NothingWritten

  -- the first file that is absent
  pub record IsMissing : Type 0 where
    pub fs : Files
    pub asks : AsksFew words fs
    pub file : ℕ
    pub name : List ℕ
    pub named : slice_get (inputs fs) file ≡ Some name
    pub absent : StopsAt old 0 (inputs fs) file Missing
    pub report : Puts (missing name)
    pub nothing : NothingWritten

  -- the first file whose read failed
  pub record IsReadFault : Type 0 where
    pub fs : Files
    pub asks : AsksFew words fs
    pub file : ℕ
    pub name : List ℕ
    pub named : slice_get (inputs fs) file ≡ Some name
    pub unread : StopsAt old 0 (inputs fs) file Failed
    pub report : Puts (read_fault name)
    pub nothing : NothingWritten

  -- the write of a new file failed, of a change or an extraction
  pub record IsWriteFault : Type 0 where
    pub writing : Writing
    pub asked : IsAsked words old writing
    pub name : List ℕ
    pub failed : FailsAt writing.names writing.texts name old new
    pub report : Puts (write_fault name)

  -- what would have become of the call, had the put of its report not failed
  abbrev pub IsOne : Type 0
  IsOne = IsDone ⊎ IsRefused ⊎ IsUsage ⊎ IsMissing ⊎ IsReadFault ⊎ IsWriteFault ⊎ IsThrew ⊎ IsBound

-- OutFault: the files are as for the answer that would have come, and of its report a front was put.
pub record IsOutFault (words : List (List ℕ)) (old new : Option Look) (before after : Option (List ℕ)) : Type 0 where
  pub whole : Option (List ℕ)
  pub report : List ℕ
  pub all : Appends before whole report
  pub answer : IsOne words old new before whole
  pub some : AppendsSome before after report

-- a front of a report was put, and the put failed
abbrev pub IsCut : Option (List ℕ) → Option (List ℕ) → ℕ → ℕ → List ℕ → Type 0
IsCut before after faults now report = Rose faults now × AppendsSome before after report

-- how a call ends whose report is put last: so, with the whole report put, or OutFault
abbrev pub Ends : Option (List ℕ) → Option (List ℕ) → ℕ → ℕ → List ℕ → Status → Status → Type 0
Ends before after faults now report wanted status =
    ((status ≡ wanted) × Appends before after report) ⊎ ((status ≡ s.OutFault) × IsCut before after faults now report)

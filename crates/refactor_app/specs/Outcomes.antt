-- What words and files come to, where no read, write or put fails; and that answers exclude each other.
use Rattle.std.specs.Prelude.{◌≡◌, ◌⊎◌, ℕ, List, Option, Some, slice_get, codes}
use Rattle.java_tree.specs.Names.{built_in_names}
use Rattle.java_tree.specs.Plain.{SourceUnit}
use Rattle.tool_files.specs.Told.{Look}
use Rattle.command_words.specs.Rules.{IsLowest}
use Rattle.changed_files.specs.declared.files.NewFiles.{NewFiles}
use Rattle.generalize_declared.specs.declared.command.Against.{Against}
use Rattle.extract_interface.specs.declared.command.Against as extract
use Rattle.extract_interface.specs.declared.command.Extracted.{Extracted}
use Rattle.core_meaning.specs.declared.values.End.{End}
use Rattle.source_files.specs.Held.{StopsAt, Missing}
use Rattle.source_files.specs.Trees.{BreaksAt, NoTree}
use Rattle.java_tree.specs.declared.fault.Broken.{Broken}
use Rattle.report_text.specs.Report.{refused}
use Rattle.refactor_app.specs.Words.{ExtractRequest, Files, Request, inputs}
use Rattle.refactor_app.specs.Changes.{against_line}
use Rattle.refactor_app.specs.Extractions as extractions
use Rattle.refactor_app.specs.Declarations.{broken_line}
use Rattle.refactor_app.specs.Refusals.{AsksFew, HasAgainst, HasExtractAgainst, HasNoMain, HasRead, HasDeclared, IsAt, IsCheckRefusal, Refusal}
use Rattle.refactor_app.specs.Checking.{Passes}
use Rattle.refactor_app.specs.Running.{Runs}
use Rattle.refactor_app.specs.Answers.{AreTypes, IsChange, IsExtraction}

pub data Outcome : Type 0 where
  Misused : (rule : ℕ) → Outcome  -- U1 to U8
  Absent : (name : List ℕ) → Outcome
  Refused : (line : List ℕ) → Outcome
  Changed : (q : Request) (made : NewFiles) → Outcome
  Listed : (q : Request) (types : List (List ℕ)) → Outcome
  Drawn : (q : ExtractRequest) (made : Extracted) → Outcome  -- an extraction
  Judged : (report : List ℕ) → Outcome
  Ended : (report : List ℕ) (how : End) → Outcome

-- the first file that is absent has this name
pub record IsFirstAbsent (words : List (List ℕ)) (old : Option Look) (name : List ℕ) : Type 0 where
  pub fs : Files
  pub file : ℕ
  pub asks : AsksFew words fs
  pub named : slice_get (inputs fs) file ≡ Some name
  pub absent : StopsAt old 0 (inputs fs) file Missing

abbrev pub ComesTo : List (List ℕ) → Option Look → Outcome → Type 0
ComesTo words old (Misused rule) = IsLowest words rule
ComesTo words old (Absent name) = IsFirstAbsent words old name
ComesTo words old (Refused line) = Refusal words old line
ComesTo words old (Changed q made) = IsChange words old q made
ComesTo words old (Listed q types) = AreTypes words old q types
ComesTo words old (Drawn q made) = IsExtraction words old q made
ComesTo words old (Judged report) = Passes words old report
ComesTo words old (Ended report how) = Runs words old report how

-- the line says that the file with this number has no tree, at one of its places
pub record IsTreeless (words : List (List ℕ)) (old : Option Look) (fs : Files) (texts : List (List ℕ)) (file : ℕ) (line : List ℕ) : Type 0 where
  pub at : ℕ
  pub read : HasRead words old fs texts
  pub breaks : BreaksAt built_in_names 0 0 texts file (NoTree at)
  pub tells : IsAt (codes "G1") fs texts file at line

-- both say so of one file
abbrev pub AreTreeless : List (List ℕ) → Option Look → Outcome → Outcome → Type 0
AreTreeless words old (Refused a) (Refused b) =
    (fs : Files) × (texts : List (List ℕ)) × (file : ℕ) × IsTreeless words old fs texts file a × IsTreeless words old fs texts file b
AreTreeless words old _ _ = ⊥

-- the line names a broken rule on types or on flow
pub record IsTypeRefusal (words : List (List ℕ)) (old : Option Look) (line : List ℕ) : Type 0 where
  pub fs : Files
  pub texts : List (List ℕ)
  pub names : List (List ℕ)
  pub units : List SourceUnit
  pub rule : Broken
  pub declared : HasDeclared words old fs texts names units
  pub broken : IsCheckRefusal declared.declared.program declared.declared.world rule
  pub is : line ≡ broken_line fs texts units rule

-- the line names what stands against a question about a place of a program that breaks no rule
pub record IsChangeRefusal (words : List (List ℕ)) (old : Option Look) (line : List ℕ) : Type 0 where
  pub q : Request
  pub texts : List (List ℕ)
  pub names : List (List ℕ)
  pub units : List SourceUnit
  pub against : Against
  pub stands : HasAgainst words old q texts names units against
  pub is : line ≡ against_line q.files texts units against

-- the line names what stands against an extraction from such a program
pub record IsExtractRefusal (words : List (List ℕ)) (old : Option Look) (line : List ℕ) : Type 0 where
  pub q : ExtractRequest
  pub texts : List (List ℕ)
  pub names : List (List ℕ)
  pub units : List SourceUnit
  pub against : extract.Against
  pub stands : HasExtractAgainst words old q texts names units against
  pub is : line ≡ extractions.against_line q.files texts units against

-- the line is S24, of a run
abbrev pub IsMainless : List (List ℕ) → Option Look → (line : List ℕ) → Type 0
IsMainless words old line = HasNoMain words old × (line ≡ refused (codes "S24"))

-- what is said where a check was made: its answer, or behind it what stands against a question or an extraction, the change, the extraction, the types,
-- S24 or the report of a run
abbrev pub IsOfTypes : List (List ℕ) → Option Look → Outcome → Type 0
IsOfTypes words old (Refused line) =
    IsTypeRefusal words old line ⊎ IsChangeRefusal words old line ⊎ IsMainless words old line ⊎ IsExtractRefusal words old line
IsOfTypes words old (Changed q made) = IsChange words old q made
IsOfTypes words old (Listed q types) = AreTypes words old q types
IsOfTypes words old (Drawn q made) = IsExtraction words old q made
IsOfTypes words old (Judged report) = Passes words old report
IsOfTypes words old (Ended report how) = Runs words old report how
IsOfTypes words old _ = ⊥

-- No two calls on the same words and files, whose contents are told, have these answers, whatever is held and put behind them.
abbrev pub Excludes : (P Q : List (List ℕ) → Option Look → Option Look → Option (List ℕ) → Option (List ℕ) → Type 0) → Type 0
Excludes P Q = (words : List (List ℕ)) (look : Look) (new now : Option Look) (before after front back : Option (List ℕ)) → P words (Some look) new before after → Q words (Some look) now front back → ⊥

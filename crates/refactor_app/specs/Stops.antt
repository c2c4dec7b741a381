-- What is put where the files cannot be read or parsed.
use Rattle.std.specs.Prelude.{◌≡◌, ◌<◌, ◌⊎◌, ℕ, List, Option, Some, slice_get, codes}
use Rattle.source_files.specs.declared.read.ReadStop.{ReadStop}
use Rattle.source_files.specs.declared.read.ReadStop.TheVariants as read
use Rattle.source_files.specs.declared.trees.TreeStop.{TreeStop}
use Rattle.source_files.specs.declared.trees.TreeStop.TheVariants as tree
use Rattle.source_files.specs.Trees.{Lexical, LeftOut, NoTree}
use Rattle.report_text.specs.Report.{refused, missing, read_fault}
use Rattle.refactor_app.specs.declared.status.Status.{Status}
use Rattle.refactor_app.specs.declared.status.Status.TheVariants as s
use Rattle.refactor_app.specs.Words.{Files}
use Rattle.refactor_app.specs.Refusals.{Tells}
use Rattle.refactor_app.specs.Answers.{Ends}

abbrev pub TellsStop : Files → List (List ℕ) → TreeStop → List ℕ → Type 0
TellsStop fs texts (tree.Lexical rule file at) line = Tells fs texts file (Lexical rule at) line
TellsStop fs texts tree.Tokens line = line ≡ refused (codes "L4")
TellsStop fs texts (tree.LeftOut rule file at) line = Tells fs texts file (LeftOut rule at) line
TellsStop fs texts (tree.NoTree file at) line = Tells fs texts file (NoTree at) line
TellsStop fs texts tree.NoMemory line = ⊥

-- the file is one of so many
abbrev pub IsNamed : ℕ → ReadStop → Type 0
IsNamed count (read.Missing k) = k < count
IsNamed count (read.Failed k) = k < count
IsNamed count _ = Unit {0}

-- a report is put, or there was no memory for it
abbrev pub EndsOrNot : Option (List ℕ) → Option (List ℕ) → ℕ → ℕ → List ℕ → Status → Status → Type 0
EndsOrNot before after faults now line wanted status = Ends before after faults now line wanted status ⊎ ((status ≡ s.NoMemory) × (after ≡ before))

abbrev pub Stops : List (List ℕ) → ReadStop → Option (List ℕ) → Option (List ℕ) → ℕ → ℕ → Status → Type 0
Stops names (read.Missing k) before after faults now status =
    (name : List ℕ) × (slice_get names k ≡ Some name) × EndsOrNot before after faults now (missing name) s.Missing status
Stops names (read.Failed k) before after faults now status =
    (name : List ℕ) × (slice_get names k ≡ Some name) × EndsOrNot before after faults now (read_fault name) s.ReadFault status
Stops names read.TooLarge before after faults now status = Ends before after faults now (refused (codes "L2")) s.Refused status
Stops names read.TooMuch before after faults now status = Ends before after faults now (refused (codes "L3")) s.Refused status
Stops names read.NoMemory before after faults now status = (status ≡ s.NoMemory) × (after ≡ before)

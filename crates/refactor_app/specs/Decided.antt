-- A verdict on a question about a place or on an extraction, as the code has it.
use Rattle.std.specs.Prelude.{◌≡◌, ℕ, List, [], ◌∷◌, ◌++◌, map}
use Rattle.std.specs.String.{string_bytes}
use Rattle.java_tree.specs.Plain.{SourceUnit}
use Rattle.java_tree.specs.View.{unit_plain}
use Rattle.java_core.specs.View.{program_plain}
use Rattle.class_world.specs.declared.world.World.{World}
use Rattle.decl_table.specs.Program.{Program}
use Rattle.type_facts.specs.Facts.{Facts}
use Rattle.checker.specs.declared.check.CheckedProgram.{CheckedProgram}
use Rattle.generalize_declared.specs.declared.asked.CheckedSource.{CheckedSource}
use Rattle.generalize_declared.specs.declared.asked.Wish.{Wish}
use Rattle.extract_interface.specs.declared.command.Answer.{Answer}
use Rattle.extract_interface.specs.declared.command.Answer.TheVariants as answer
use Rattle.report_text.specs.Report.{types_report, write_fault}
use Rattle.refactor_app.specs.declared.decide.Output.{Output}
use Rattle.refactor_app.specs.declared.decide.Verdict.{Verdict}
use Rattle.refactor_app.specs.declared.decide.Verdict.TheVariants as v
use Rattle.refactor_app.specs.Words.{ExtractRequest, Request}
use Rattle.refactor_app.specs.Changes.{IsAnsweredBy, Said, Says, Stands, Changed, Listed, against_line, change_writing}
use Rattle.refactor_app.specs.Extractions as extractions
use Rattle.refactor_app.specs.Extractions.{extract_writing}
use Rattle.refactor_app.specs.Writes.{Writing}

pub record IsOutput (name text : List ℕ) (o : Output) : Type 0 where
  pub named : string_bytes o.name ≡ name
  pub holds : o.text ≡ text
  pub fault : string_bytes o.fault ≡ write_fault name

-- a file for each name, with its text
abbrev pub AreOutputs : (names texts : List (List ℕ)) → List Output → Type 0
AreOutputs [] [] [] = Unit {0}
AreOutputs (n ∷ ns) (t ∷ ts) (o ∷ os) = IsOutput n t o × AreOutputs ns ts os
AreOutputs _ _ _ = ⊥

abbrev pub Adds : (names texts : List (List ℕ)) → (old new : List Output) → Type 0
Adds names texts old new = (more : List Output) × (new ≡ old ++ more) × AreOutputs names texts more

-- all of it is to be written
abbrev pub IsWritten : Writing → Verdict → Type 0
IsWritten x (v.Refused line) = ⊥
IsWritten x (v.Listed report) = ⊥
IsWritten x (v.Changed outputs report) = AreOutputs x.names x.texts outputs × (report.items ≡ x.report)

-- of what is said
abbrev pub IsVerdict : Request → (texts : List (List ℕ)) → List SourceUnit → Said → Verdict → Type 0
IsVerdict q texts units (Stands a) (v.Refused line) = string_bytes line ≡ against_line q.files texts units a
IsVerdict q texts units (Stands a) (v.Changed outputs report) = ⊥
IsVerdict q texts units (Stands a) (v.Listed report) = ⊥
IsVerdict q texts units (Changed new) x = IsWritten (change_writing q new) x
IsVerdict q texts units (Listed types) (v.Refused line) = ⊥
IsVerdict q texts units (Listed types) (v.Changed outputs report) = ⊥
IsVerdict q texts units (Listed types) (v.Listed report) = string_bytes report ≡ types_report types

-- what is said by facts of the files, and what is put of it
abbrev pub SaysSo : Request → CheckedSource → Wish → ((ℕ → Facts) → Type 0) → Verdict → Type 0
SaysSo q s x are v =
    (a : Said) × ((fs : ℕ → Facts) → are fs → Says fs s x q.aim a) × IsVerdict q s.texts.now (map unit_plain s.units.now) a v

abbrev pub Decides : Request → (texts table : List (List ℕ)) → List SourceUnit → Program → World → CheckedProgram → Verdict → Type 0
Decides q texts table units p w c x =
    (a : Said) × IsAnsweredBy q texts table units p w (program_plain c.core) c.operations a × IsVerdict q texts units a x

-- of what is said of an extraction
abbrev pub IsExtractVerdict : ExtractRequest → (texts : List (List ℕ)) → List SourceUnit → Answer → Verdict → Type 0
IsExtractVerdict q texts units (answer.Against a) (v.Refused line) = string_bytes line ≡ extractions.against_line q.files texts units a
IsExtractVerdict q texts units (answer.Against a) (v.Changed outputs report) = ⊥
IsExtractVerdict q texts units (answer.Against a) (v.Listed report) = ⊥
IsExtractVerdict q texts units (answer.Extracted made) x = IsWritten (extract_writing q texts units made) x

abbrev pub DecidesExtract : ExtractRequest → (texts table : List (List ℕ)) → List SourceUnit → World → CheckedProgram → Verdict → Type 0
DecidesExtract q texts table units w c x =
    (a : Answer) × extractions.IsAnsweredBy q texts table units w (program_plain c.core) c.operations a × IsExtractVerdict q texts units a x

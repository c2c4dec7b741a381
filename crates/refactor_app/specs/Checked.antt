-- What a check answers, as the code has it.
use Rattle.std.specs.Prelude.{◌≡◌, List, ℕ, length, take, drop}
use Rattle.std.specs.String.{string_bytes}
use Rattle.java_tree.specs.Plain.{SourceUnit}
use Rattle.java_tree.specs.declared.fault.Broken.{Broken}
use Rattle.class_world.specs.declared.world.World.{World}
use Rattle.java_core.specs.View.{program_plain}
use Rattle.decl_table.specs.Judged.{IsProgram}
use Rattle.decl_table.specs.Program.{Program}
use Rattle.checker.specs.Checking.{IsWellTyped}
use Rattle.refactor_app.specs.declared.check.CheckAnswer.{CheckAnswer}
use Rattle.refactor_app.specs.declared.check.CheckAnswer.TheVariants as answer
use Rattle.refactor_app.specs.Words.{Files}
use Rattle.checked_files.specs.declared.declarations.Declared.{Declared}
use Rattle.checked_files.specs.Declarations.{IsOfFiles}
use Rattle.refactor_app.specs.Declarations.{broken_line}
use Rattle.refactor_app.specs.Refusals.{IsCheckRefusal}
use Rattle.refactor_app.specs.Checking.{check_report}

-- these trees, of which so many first ones are those of user files, make this program; the table has all names that they need
abbrev pub AreFilesOf : (users : ℕ) → (table : List (List ℕ)) → List SourceUnit → Program → Type 0
AreFilesOf users table units p = IsProgram table (take users units) (drop users units) p

-- of files that make this program with this world
abbrev pub Answers : Files → (texts : List (List ℕ)) → List SourceUnit → Program → World → CheckAnswer → Type 0
Answers fs texts units p w (answer.Refused line) = (b : Broken) × IsCheckRefusal p w b × (string_bytes line ≡ broken_line fs texts units b)
Answers fs texts units p w (answer.Passed report checked) =
    IsWellTyped p w (program_plain checked.core) checked.operations × (string_bytes report ≡ check_report fs texts checked.operations)

-- what a check answers of files whose declarations say this
abbrev pub AreAnswered : Files → (texts names : List (List ℕ)) → List SourceUnit → Declared → CheckAnswer → Type 0
AreAnswered fs texts names units d x = (p : Program) → IsOfFiles (length fs.users) names units p → Answers fs texts units p d.world x

-- From the check of a program to what the check of its files answers.
use Rattle.std.proofs.Common.{◌≡◌, ℕ, List, length, map, take, drop, sym, ◌∙◌, ap, subst}
use Rattle.std.specs.String.{string_bytes}
use Rattle.java_tree.specs.declared.tree.SourceUnit.{SourceUnit}
use Rattle.java_tree.specs.View.{unit_plain}
use Rattle.decl_table.specs.Program.{Program}
use Rattle.decl_table.specs.Judged.{IsProgram}
use Rattle.built_in_types.specs.BuiltIns.{with_words}
use Rattle.refactor_app.specs.declared.asked.Inputs.{Inputs}
use Rattle.refactor_app.specs.declared.asked.Task.{Task}
use Rattle.refactor_app.specs.declared.asked.Task.TheVariants as task
use Rattle.refactor_app.specs.Words.{AsksCheck, Files}
use Rattle.refactor_app.specs.Asked.{AsksTask, files_of, task_files}
use Rattle.checked_files.specs.Declarations.{IsOfFiles}
use Rattle.refactor_app.proofs.Courses.{map_length}

-- the program of files, by what the code has of them
pub of_files : (users n : ℕ) (names table : List (List ℕ)) (units us : List SourceUnit) (p : Program) → users ≡ n → table ≡ with_words names → us ≡ units
    → IsOfFiles users names (map unit_plain units) p → IsProgram table (take n (map unit_plain us)) (drop n (map unit_plain us)) p
of_files users n names table units us p many words same is =
    subst (λ (us : List SourceUnit). IsProgram table (take n (map unit_plain us)) (drop n (map unit_plain us)) p) (sym same)
    (subst (λ (ns : List (List ℕ)). IsProgram ns (take n (map unit_plain units)) (drop n (map unit_plain units)) p) (sym words)
    (subst (λ (n : ℕ). IsProgram (with_words names) (take n (map unit_plain units)) (drop n (map unit_plain units)) p) many is))

-- so many user files
pub user_count : (t : Task) (i : Inputs) → files_of i ≡ task_files t → length (task_files t).users ≡ length i.users.now
user_count t i same = ap (λ (f : Files). length f.users) (sym same) ∙ map_length string_bytes i.users.now

pub check_asked : (t : Task) (i : Inputs) → t ≡ task.Check i → (words : List (List ℕ)) → AsksTask words t → AsksCheck words (task_files t)
check_asked t i check words asks = subst (λ (t : Task). AsksCheck words (task_files t)) (sym check) (subst (λ (t : Task). AsksTask words t) check asks)

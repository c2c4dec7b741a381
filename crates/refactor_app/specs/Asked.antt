-- What words ask for, as the code has it.
use Rattle.std.specs.Prelude.{◌≡◌, ℕ, List, ◌∷◌, drop, map}
use Rattle.std.specs.String.{string_bytes}
use Rattle.command_words.specs.Names.{IsNumber}
use Rattle.refactor_app.specs.declared.asked.Asked.{Asked}
use Rattle.refactor_app.specs.declared.asked.AskedExtract.{AskedExtract}
use Rattle.refactor_app.specs.declared.asked.AskedRun.{AskedRun}
use Rattle.refactor_app.specs.declared.asked.Inputs.{Inputs}
use Rattle.refactor_app.specs.declared.asked.Want.{Want}
use Rattle.refactor_app.specs.declared.asked.Want.TheVariants as want
use Rattle.refactor_app.specs.declared.asked.Task.{Task}
use Rattle.refactor_app.specs.declared.asked.Task.TheVariants as task
use Rattle.refactor_app.specs.Words.{Aim, Become, Types, ExtractRequest, Files, Request, Asks, AsksCheck, AsksExtract, AsksRun}

abbrev pub files_of : Inputs → Files
files_of i = record { users = map string_bytes i.users.now; libs = map string_bytes i.libs.now }

abbrev pub aim_of : Want → Aim
aim_of (want.Become out ty) = Become out.now ty.now
aim_of want.Types = Types

abbrev pub request_of : Asked → Request
request_of a = record {
  aim = aim_of a.want;
  file = a.file.now;
  line = a.line;
  col = a.col;
  files = files_of a.inputs;
}

abbrev pub extract_of : AskedExtract → ExtractRequest
extract_of a = record {
  out = a.out.now;
  class = a.class.now;
  name = a.name.now;
  methods = map string_bytes a.methods.now;
  files = files_of a.inputs;
}

abbrev pub task_files : Task → Files
task_files (task.Place a) = files_of a.inputs
task_files (task.Extract a) = files_of a.inputs
task_files (task.Check i) = files_of i
task_files (task.Run r) = files_of r.inputs

-- own words of a run: a number, a class, and nothing or `=` and the arguments
pub record HasRunWords (own : List (List ℕ)) : Type 0 where
  pub count : List ℕ
  pub class : List ℕ
  pub more : List (List ℕ)
  pub are : own ≡ count ∷ class ∷ more
  pub number : (n : ℕ) × IsNumber count n

pub record AreRunWords (own : List (List ℕ)) (r : AskedRun) : Type 0 where
  pub count : List ℕ
  pub more : List (List ℕ)
  pub are : own ≡ count ∷ r.class.now ∷ more
  pub at_steps : IsNumber count r.steps
  pub args : map string_bytes r.args.now ≡ drop 1 more

abbrev pub AsksRunOf : List (List ℕ) → AskedRun → Type 0
AsksRunOf words r = AsksRun words r.steps r.class.now (map string_bytes r.args.now) (files_of r.inputs)

-- the steps that a run may take
abbrev pub task_steps : Task → ℕ
task_steps (task.Run r) = r.steps
task_steps _ = 0

abbrev pub AsksTask : List (List ℕ) → Task → Type 0
AsksTask words (task.Place a) = Asks words (request_of a)
AsksTask words (task.Extract a) = AsksExtract words (extract_of a)
AsksTask words (task.Check i) = AsksCheck words (files_of i)
AsksTask words (task.Run r) = AsksRunOf words r

-- What it says that new files keep the behaviour of a program.
use Rattle.std.specs.Prelude.{◌≡◌, ℕ, ◌+◌, ◌<◌, Bool, true, false, nat_lt, if◌then◌else◌, List, length, Ok}
use Rattle.program_maps.specs.declared.numbers.Map.{Map}
use Rattle.program_maps.specs.declared.numbers.Numbers.{Numbers}
use Rattle.program_maps.specs.Ways.{goes_to, ways}
use Rattle.running_code.specs.declared.running.Running.{Running}
use Rattle.running_code.specs.Running.{IsMadeOf}
use Rattle.alike_programs.specs.Alike.{AlikeTold}
use Rattle.checked_files.specs.declared.texts.CheckedFiles.{CheckedFiles}
use Rattle.checked_files.specs.Checked.{AreChecked}
use Rattle.kept_behaviour.specs.declared.maps.Inserted.{Inserted}

-- numbers below a count go to themselves
abbrev pub StaysIn : ℕ → Numbers → Type 0
StaysIn n x = (k : ℕ) → k < n → goes_to x k ≡ k

-- where a number stands once so many are put in from a number on
abbrev pub shifted : (from by : ℕ) → ℕ → ℕ
shifted from by k = if nat_lt k from then k else k + by

-- numbers below a count go where they stand once so many are put in from a number on
abbrev pub ShiftsIn : ℕ → (from by : ℕ) → Numbers → Type 0
ShiftsIn n from by x = (k : ℕ) → k < n → goes_to x k ≡ shifted from by k

-- The checked program behaves as the old one, through a map of the numbers: for all arguments and every bound it prints the same bytes, enters the same methods and
-- ends in the same way. Where `strict`, this is so of all runs, and else of those of the old program in which nothing goes wrong.
pub record KeepsIn (old : Running) (files : CheckedFiles) (map : Map) (strict : Bool) : Type 0 where
  pub new : Running
  pub made : IsMadeOf new files.declared.world files.names files.checked.core files.declared.members
  pub alike : AlikeTold old new (ways map) strict

-- the texts are those of a program that breaks no rule and behaves as the old one, through a map of the numbers
pub record KeepsBy (old : Running) (texts : List (List ℕ)) (users : ℕ) (map : Map) (strict : Bool) : Type 0 where
  pub files : CheckedFiles
  pub checked : AreChecked users texts (Ok files)
  pub keeps : KeepsIn old files map strict

-- the texts are those of a program that breaks no rule and behaves as the old one in all runs, and types, methods and fields have the numbers that they had
pub record Keeps (old : Running) (texts : List (List ℕ)) (users : ℕ) : Type 0 where
  pub map : Map
  pub types : StaysIn (length old.world.now.types) map.types
  pub methods : StaysIn (length old.world.now.methods) map.methods
  pub fields : StaysIn (length old.world.now.fields) map.fields
  pub keeps : KeepsBy old texts users map true

-- The texts are those of a program that breaks no rule and behaves as the old one in each run in which nothing goes wrong. A type and its methods are put in behind others;
-- all other types, methods and fields stand in the order that they had.
pub record KeepsWith (old : Running) (texts : List (List ℕ)) (users : ℕ) (inserted : Inserted) : Type 0 where
  pub map : Map
  pub types : ShiftsIn (length old.world.now.types) inserted.at 1 map.types
  pub methods : ShiftsIn (length old.world.now.methods) inserted.first_method inserted.methods map.methods
  pub fields : StaysIn (length old.world.now.fields) map.fields
  pub keeps : KeepsBy old texts users map false

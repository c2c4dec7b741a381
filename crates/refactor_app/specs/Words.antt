-- What the words of a call ask for.
use Rattle.std.specs.Prelude.{◌≡◌, ◌≢◌, ◌⊎◌, ℕ, List, [], ◌∷◌, ◌++◌, drop}
use Rattle.command_words.specs.declared.table.Command.{Command}
use Rattle.command_words.specs.declared.table.Command.TheVariants as c
use Rattle.command_words.specs.Names.{IsNumber}
use Rattle.command_words.specs.Table.{word_of, parts_of}
use Rattle.command_words.specs.Rules.{Meets}

-- user files + library files
pub record Files : Type 0 where
  pub users : List (List ℕ)
  pub libs : List (List ℕ)

-- all, in the order of the words
abbrev pub inputs : Files → List (List ℕ)
inputs fs = fs.users ++ fs.libs

-- what is asked of a place: that it become a type, with the new files below a folder; or the types to which it may go
pub data Aim : Type 0 where
  Become : (out ty : List ℕ) → Aim
  Types : Aim

abbrev pub aim_command : Aim → Command
aim_command (Become out ty) = c.Generalize
aim_command Types = c.Allowed

-- its own words
abbrev pub aim_words : Aim → (file line col : List ℕ) → List (List ℕ)
aim_words (Become out ty) file line col = out ∷ file ∷ line ∷ col ∷ ty ∷ []
aim_words Types file line col = file ∷ line ∷ col ∷ []

-- a question about a place: generalize OUT FILE LINE COL TYPE -- files, or allowed FILE LINE COL -- files
pub record Request : Type 0 where
  pub aim : Aim
  pub file : List ℕ
  pub line : ℕ
  pub col : ℕ
  pub files : Files

-- the words break no rule, and ask for it
pub record Asks (words : List (List ℕ)) (q : Request) : Type 0 where
  pub rest : List (List ℕ)
  pub are : words ≡ word_of (aim_command q.aim) ∷ rest
  pub line : List ℕ
  pub col : List ℕ
  pub own : (parts_of rest).own ≡ aim_words q.aim q.file line col
  pub at_line : IsNumber line q.line
  pub at_col : IsNumber col q.col
  pub users : (parts_of rest).users ≡ q.files.users
  pub libs : (parts_of rest).libs ≡ q.files.libs
  pub meets : (n : ℕ) → Meets (aim_command q.aim) (parts_of rest) n

-- the words break no rule, and ask for a check: check -- files
pub record AsksCheck (words : List (List ℕ)) (fs : Files) : Type 0 where
  pub rest : List (List ℕ)
  pub are : words ≡ word_of c.Check ∷ rest
  pub users : (parts_of rest).users ≡ fs.users
  pub libs : (parts_of rest).libs ≡ fs.libs
  pub meets : (n : ℕ) → Meets c.Check (parts_of rest) n

-- the words break no rule, and ask for a run: run STEPS CLASS -- files, or with `= ARGS` behind CLASS
pub record AsksRun (words : List (List ℕ)) (steps : ℕ) (class : List ℕ) (args : List (List ℕ)) (fs : Files) : Type 0 where
  pub rest : List (List ℕ)
  pub are : words ≡ word_of c.Run ∷ rest
  pub count : List ℕ
  pub more : List (List ℕ)  -- empty, or `=` and the arguments
  pub own : (parts_of rest).own ≡ count ∷ class ∷ more
  pub at_steps : IsNumber count steps
  pub are_args : args ≡ drop 1 more
  pub users : (parts_of rest).users ≡ fs.users
  pub libs : (parts_of rest).libs ≡ fs.libs
  pub meets : (n : ℕ) → Meets c.Run (parts_of rest) n

-- an extraction: extract-interface OUT CLASS NEWNAME METHOD .. -- files
pub record ExtractRequest : Type 0 where
  pub out : List ℕ
  pub class : List ℕ
  pub name : List ℕ
  pub methods : List (List ℕ)
  pub files : Files

-- the words break no rule, and ask for it
pub record AsksExtract (words : List (List ℕ)) (q : ExtractRequest) : Type 0 where
  pub rest : List (List ℕ)
  pub are : words ≡ word_of c.ExtractInterface ∷ rest
  pub own : (parts_of rest).own ≡ q.out ∷ q.class ∷ q.name ∷ q.methods
  pub users : (parts_of rest).users ≡ q.files.users
  pub libs : (parts_of rest).libs ≡ q.files.libs
  pub meets : (n : ℕ) → Meets c.ExtractInterface (parts_of rest) n

-- they ask for a run of so many steps at most
pub record AsksSteps (words : List (List ℕ)) (fs : Files) (steps : ℕ) : Type 0 where
  pub class : List ℕ
  pub args : List (List ℕ)
  pub asks : AsksRun words steps class args fs

-- they ask about a place, or for a check, a run or an extraction, of these files
abbrev pub Uses : List (List ℕ) → Files → Type 0
Uses words fs =
    ((q : Request) × Asks words q × (q.files ≡ fs)) ⊎ AsksCheck words fs ⊎ ((n : ℕ) × AsksSteps words fs n)
    ⊎ ((q : ExtractRequest) × AsksExtract words q × (q.files ≡ fs))

-- the words break no rule, and ask for something else
pub record AskOther (words : List (List ℕ)) : Type 0 where
  pub command : Command
  pub rest : List (List ℕ)
  pub are : words ≡ word_of command ∷ rest
  pub no_change : command ≢ c.Generalize
  pub no_types : command ≢ c.Allowed
  pub no_check : command ≢ c.Check
  pub no_run : command ≢ c.Run
  pub no_extraction : command ≢ c.ExtractInterface
  pub meets : (n : ℕ) → Meets command (parts_of rest) n

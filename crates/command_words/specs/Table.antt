-- The table of commands, and the parts of a command line.
use Rattle.std.specs.Prelude.{ℕ, Bool, true, false, List, [], ◌∷◌, Option, Some, None, slice_get, unwrap_or, codes}
use Rattle.std.specs.List.{before_first, after_first}
use Rattle.std.specs.Str.{bytes_eq}
use Rattle.command_words.specs.declared.table.Command.{Command}
use Rattle.command_words.specs.declared.table.Command.TheVariants as command
use Rattle.command_words.specs.declared.table.Role.{Role}
use Rattle.command_words.specs.declared.table.Role.TheVariants as role
use Rattle.command_words.specs.Names.{is_among}

abbrev pub word_of : Command → List ℕ
word_of command.Check = codes "check"
word_of command.Run = codes "run"
word_of command.Allowed = codes "allowed"
word_of command.Generalize = codes "generalize"
word_of command.ExtractInterface = codes "extract-interface"
word_of command.PullUp = codes "pull-up"
word_of command.InferTypeArguments = codes "infer-type-arguments"
word_of command.Workload = codes "workload"

-- the words that each use of the command has of its own
abbrev pub first_roles : Command → List Role
first_roles command.Check = []
first_roles command.Run = role.Count ∷ role.Identifier ∷ []
first_roles command.Allowed = role.File ∷ role.Number ∷ role.Number ∷ []
first_roles command.Generalize = role.Out ∷ role.File ∷ role.Number ∷ role.Number ∷ role.Identifier ∷ []
first_roles command.ExtractInterface = role.Out ∷ role.Identifier ∷ role.NewName ∷ role.Member ∷ []
first_roles command.PullUp = role.Out ∷ role.Identifier ∷ role.Identifier ∷ role.Member ∷ []
first_roles command.InferTypeArguments = role.Out ∷ []
first_roles command.Workload = role.Number ∷ []

-- what each further word is, where the command may have some
abbrev pub more_role : Command → Option Role
more_role command.Run = Some role.Free
more_role command.ExtractInterface = Some role.Member
more_role command.PullUp = Some role.Member
more_role _ = None

-- what the own word at a place is
abbrev pub role_of : Command → ℕ → Role
role_of c i = unwrap_or (slice_get (first_roles c) i) (unwrap_or (more_role c) role.Free)

-- whether files stand behind the own words
abbrev pub takes_files : Command → Bool
takes_files command.Workload = false
takes_files _ = true

abbrev pub before : List ℕ → List (List ℕ) → List (List ℕ)
before w ws = before_first (bytes_eq w) ws

abbrev pub behind : List ℕ → List (List ℕ) → List (List ℕ)
behind w ws = after_first (bytes_eq w) ws

-- the words behind that of the command
pub record Parts : Type 0 where
  pub own : List (List ℕ)
  pub dashed : Bool  -- there is a `--`
  pub users : List (List ℕ)
  pub libs : List (List ℕ)

-- The first `--` ends the own words, and the first `+` behind it the user files.
abbrev pub parts_of : List (List ℕ) → Parts
parts_of ws = record {
  own = before (codes "--") ws;
  dashed = is_among (codes "--") ws;
  users = before (codes "+") (behind (codes "--") ws);
  libs = behind (codes "+") (behind (codes "--") ws);
}

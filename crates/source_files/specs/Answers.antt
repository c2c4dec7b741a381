-- What an answer says.
use Rattle.std.specs.Prelude.{ℕ, List, map, Option, Result, Ok, Err}
use Rattle.java_tree.specs.Names.{IsTable, built_in_names}
use Rattle.java_tree.specs.View.{unit_plain}
use Rattle.tool_files.specs.Told.{Look}
use Rattle.source_files.specs.declared.read.ReadStop.{ReadStop}
use Rattle.source_files.specs.declared.read.ReadStop.TheVariants as read
use Rattle.source_files.specs.declared.trees.TreeStop.{TreeStop}
use Rattle.source_files.specs.declared.trees.TreeStop.TheVariants as tree
use Rattle.source_files.specs.declared.trees.Parsed.{Parsed}
use Rattle.source_files.specs.Held.{AreHeld, StopsAt, Missing, Failed, TooLarge, TooMuch}
use Rattle.source_files.specs.Trees.{AreTrees, BreaksAt, Lexical, Tokens, LeftOut, NoTree}

abbrev pub HasRead : Option Look → List (List ℕ) → Result (List (List ℕ)) ReadStop → Type 0
HasRead look names (Ok texts) = AreHeld look 0 names texts
HasRead look names (Err (read.Missing k)) = StopsAt look 0 names k Missing
HasRead look names (Err (read.Failed k)) = StopsAt look 0 names k Failed
HasRead look names (Err read.TooLarge) = (k : ℕ) × StopsAt look 0 names k TooLarge
HasRead look names (Err read.TooMuch) = (k : ℕ) × StopsAt look 0 names k TooMuch
HasRead look names (Err read.NoMemory) = Unit {0}

abbrev pub IsMissing : Result (List (List ℕ)) ReadStop → Type 0
IsMissing (Err (read.Missing k)) = Unit {0}
IsMissing _ = ⊥

abbrev pub IsFailed : Result (List (List ℕ)) ReadStop → Type 0
IsFailed (Err (read.Failed k)) = Unit {0}
IsFailed _ = ⊥

abbrev pub HasParsed : List (List ℕ) → Result Parsed TreeStop → Type 0
HasParsed texts (Ok p) = AreTrees built_in_names 0 0 texts (map unit_plain p.units) p.names × IsTable p.names
HasParsed texts (Err (tree.Lexical rule file at)) = BreaksAt built_in_names 0 0 texts file (Lexical rule at)
HasParsed texts (Err tree.Tokens) = (k : ℕ) × BreaksAt built_in_names 0 0 texts k Tokens
HasParsed texts (Err (tree.LeftOut rule file at)) = BreaksAt built_in_names 0 0 texts file (LeftOut rule at)
HasParsed texts (Err (tree.NoTree file at)) = BreaksAt built_in_names 0 0 texts file (NoTree at)
HasParsed texts (Err tree.NoMemory) = Unit {0}

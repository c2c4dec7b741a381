-- What is so of one file and of one text.
use Rattle.std.specs.Prelude.{◌≡◌, ◌≤◌, ℕ, ◌+◌, List, length, slice_get, Option, Some, None, Result, Ok, Err}
use Rattle.java_tree.specs.declared.tree.Token.{Token}
use Rattle.java_tree.specs.declared.tree.SourceUnit as code
use Rattle.java_tree.specs.View.{unit_plain}
use Rattle.java_grammar.specs.Interned.{interned}
use Rattle.java_parse_decl.specs.Found.{IsUnit}
use Rattle.unit_grammar.specs.Sizes as size
use Rattle.tool_files.specs.Told.{Look}
use Rattle.source_files.specs.declared.read.ReadStop.{ReadStop}
use Rattle.source_files.specs.declared.read.ReadStop.TheVariants as read
use Rattle.source_files.specs.declared.trees.TreeStop.{TreeStop}
use Rattle.source_files.specs.declared.trees.TreeStop.TheVariants as tree
use Rattle.source_files.specs.Held.{Holds, HasRoom, StopsHere, Missing, Failed, TooLarge, TooMuch}
use Rattle.source_files.specs.Trees.{AreAllowed, BreaksHere, Lexical, Tokens, LeftOut, NoTree}

-- what an answer says of the file with the number k, behind so many bytes
abbrev pub HasReadOne : Option Look → ℕ → List ℕ → ℕ → Result (List ℕ) ReadStop → Type 0
HasReadOne look before name k (Ok text) = Holds look name text × HasRoom before text
HasReadOne look before name k (Err (read.Missing n)) = (n ≡ k) × StopsHere look before name Missing
HasReadOne look before name k (Err (read.Failed n)) = (n ≡ k) × StopsHere look before name Failed
HasReadOne look before name k (Err read.TooLarge) = StopsHere look before name TooLarge
HasReadOne look before name k (Err read.TooMuch) = StopsHere look before name TooMuch
HasReadOne look before name k (Err read.NoMemory) = Unit {0}

-- the text with the number k breaks what the answer says
abbrev pub Stops : List (List ℕ) → (first count : ℕ) → List ℕ → ℕ → TreeStop → Type 0
Stops names first count text k (tree.Lexical rule file at) = (file ≡ k) × BreaksHere names first count text (Lexical rule at)
Stops names first count text k tree.Tokens = BreaksHere names first count text Tokens
Stops names first count text k (tree.LeftOut rule file at) = (file ≡ k) × BreaksHere names first count text (LeftOut rule at)
Stops names first count text k (tree.NoTree file at) = (file ≡ k) × BreaksHere names first count text (NoTree at)
Stops names first count text k tree.NoMemory = Unit {0}

-- where token i begins, or the end of the text
abbrev pub place_at : List ℕ → List Token → ℕ → ℕ
place_at text tokens i = of (slice_get tokens i)
  where
    of : Option Token → ℕ
    of None = length text
    of (Some t) = t.span.from

-- what an answer says of a text's tokens
abbrev pub HasTokens : (count : ℕ) → List ℕ → ℕ → Result (List Token) TreeStop → Type 0
HasTokens count text k (Ok tokens) = AreAllowed count text tokens
HasTokens count text k (Err stop) = (names : List (List ℕ)) (first : ℕ) → Stops names first count text k stop

-- a text's tree, and the number behind its nodes
pub record IsNext (text : List ℕ) (names : List (List ℕ)) (tokens : List Token) (first : ℕ) (u : code.SourceUnit) (next : ℕ) : Type 0 where
  pub unit : IsUnit text (interned text tokens names) tokens first (unit_plain u)
  pub number : next ≡ first + size.unit (unit_plain u)
  pub few : next ≤ first + length tokens + 1

-- what an answer says of the tree of a text with these tokens
abbrev pub HasTree : List (List ℕ) → (first count : ℕ) → List ℕ → List Token → ℕ → Result (code.SourceUnit × ℕ) TreeStop → Type 0
HasTree names first count text tokens k (Ok r) = IsNext text names tokens first r.0 r.1
HasTree names first count text tokens k (Err stop) = Stops names first count text k stop

abbrev pub IsMissingOne : Result (List ℕ) ReadStop → Type 0
IsMissingOne (Err (read.Missing k)) = Unit {0}
IsMissingOne _ = ⊥

abbrev pub IsFailedOne : Result (List ℕ) ReadStop → Type 0
IsFailedOne (Err (read.Failed k)) = Unit {0}
IsFailedOne _ = ⊥

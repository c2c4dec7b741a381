-- What the tokens of a text are a file of, and the answer to them.
use Rattle.std.specs.Prelude.{◌≡◌, ◌≤◌, ℕ, List, Result, Ok, Err}
use Rattle.java_tree.specs.declared.tree.Token.{Token}
use Rattle.java_tree.specs.declared.tree.SourceUnit as declared
use Rattle.java_tree.specs.Plain.{SourceUnit}
use Rattle.java_tree.specs.View.{unit_plain}
use Rattle.java_grammar.specs.declared.token.Tok.{Tok}
use Rattle.java_grammar.specs.Sorts.{AreToks}
use Rattle.java_parse_term.specs.declared.fault.SyntaxFault.{SyntaxFault}
use Rattle.java_parse_term.specs.declared.fault.SyntaxFault.TheVariants.{Bad, NoMemory}
use Rattle.unit_grammar.specs.Declarations.{SpellsUnit}
use Rattle.unit_grammar.specs.Depths.{unit_depth}
use Rattle.unit_grammar.specs.Numbers as numbers

-- The tokens spell the file, of depth at most 256, where its own node has 0. Identifiers have their numbers in `names`, and nodes are numbered in
-- preorder from `first`.
abbrev pub IsUnit : List ℕ → List (List ℕ) → List Token → ℕ → SourceUnit → Type 0
IsUnit text names tokens first x =
    (ts : List Tok) × AreToks text names tokens ts × (y : SourceUnit) × SpellsUnit text ts y × (unit_depth y ≤ 256) × (x ≡ (numbers.unit y first).0)

-- the answer where there is such a file: that tree, unless memory runs out
abbrev pub IsAnswer : Result declared.SourceUnit SyntaxFault → SourceUnit → Type 0
IsAnswer (Ok u) x = unit_plain u ≡ x
IsAnswer (Err (Bad token)) x = ⊥
IsAnswer (Err NoMemory) x = Unit {0}

-- the number that a fault names
abbrev pub IfBad : SyntaxFault → (ℕ → Type 0) → Type 0
IfBad (Bad token) P = P token
IfBad NoMemory P = Unit {0}

abbrev pub IfFault : Result declared.SourceUnit SyntaxFault → (ℕ → Type 0) → Type 0
IfFault (Ok u) P = Unit {0}
IfFault (Err fault) P = IfBad fault P

abbrev pub IsNoMemory : SyntaxFault → Type 0
IsNoMemory (Bad token) = ⊥
IsNoMemory NoMemory = Unit {0}

abbrev pub UnlessNoMemory : Result declared.SourceUnit SyntaxFault → Type 0 → Type 0
UnlessNoMemory (Err NoMemory) P = Unit {0}
UnlessNoMemory _ P = P

-- The trees of a program's texts, one behind the other, or the first rule that a text breaks.
use Rattle.std.specs.Prelude.{◌≡◌, ◌⊎◌, ◌<◌, ◌≤◌, ℕ, zero, suc, ◌+◌, List, [], ◌∷◌, length, Some, None, slice_get}
use Rattle.java_tree.specs.Plain.{SourceUnit}
use Rattle.java_tree.specs.declared.tree.Token.{Token}
use Rattle.java_lexer.specs.Lexing.{Lexes, Fails}
use Rattle.java_grammar.specs.Interned.{interned}
use Rattle.unit_grammar.specs.Sizes as size
use Rattle.java_parse_decl.specs.Found.{IsUnit}
use Rattle.left_out.specs.Rules.{rule_of, IsFirst}

abbrev pub most_tokens : ℕ
most_tokens = 1048576

-- The text has these tokens, of which there are not too many behind `count` others, and none of which the profile leaves out.
pub record AreAllowed (count : ℕ) (text : List ℕ) (tokens : List Token) : Type 0 where
  pub lexes : Lexes text tokens
  pub few : count + length tokens ≤ most_tokens
  pub none : (i : ℕ) → rule_of text tokens i ≡ None

-- Each text has its tree. The table of names grows from text to text, and nodes are numbered on from `first`; the last table is `new`.
abbrev pub AreTrees : (names : List (List ℕ)) → (first count : ℕ) → List (List ℕ) → List SourceUnit → (new : List (List ℕ)) → Type 0
AreTrees names first count [] units new = (units ≡ []) × (new ≡ names)
AreTrees names first count (x ∷ xs) [] new = ⊥
AreTrees names first count (x ∷ xs) (u ∷ us) new =
    (tokens : List Token) × AreAllowed count x tokens × IsUnit x (interned x tokens names) tokens first u
    × AreTrees (interned x tokens names) (first + size.unit u) (count + length tokens) xs us new

-- what a text breaks, and at which byte
pub data Fault : Type 0 where
  Lexical : (rule at : ℕ) → Fault  -- X1 to X6
  Tokens : Fault  -- L4
  LeftOut : (rule at : ℕ) → Fault  -- S1 to S9
  NoTree : (at : ℕ) → Fault  -- G1

-- where a token begins, or the end of the text
abbrev pub IsTokenPlace : List ℕ → List Token → ℕ → Type 0
IsTokenPlace text tokens at = ((i : ℕ) × (t : Token) × (slice_get tokens i ≡ Some t) × (at ≡ t.span.from)) ⊎ (at ≡ length text)

-- the text breaks this
abbrev pub BreaksHere : (names : List (List ℕ)) → (first count : ℕ) → List ℕ → Fault → Type 0
BreaksHere names first count text (Lexical rule at) = Fails text rule at
BreaksHere names first count text Tokens = (tokens : List Token) × Lexes text tokens × (most_tokens < count + length tokens)
BreaksHere names first count text (LeftOut rule at) =
    (tokens : List Token) × Lexes text tokens × (count + length tokens ≤ most_tokens)
    × (i : ℕ) × (t : Token) × IsFirst text tokens i rule × (slice_get tokens i ≡ Some t) × (at ≡ t.span.from)
BreaksHere names first count text (NoTree at) =
    (tokens : List Token) × AreAllowed count text tokens × ((u : SourceUnit) → IsUnit text (interned text tokens names) tokens first u → ⊥) × IsTokenPlace text tokens at

-- the text with this number is the first that breaks a rule, and breaks this one
abbrev pub BreaksAt : (names : List (List ℕ)) → (first count : ℕ) → List (List ℕ) → ℕ → Fault → Type 0
BreaksAt names first count [] k fault = ⊥
BreaksAt names first count (x ∷ xs) zero fault = BreaksHere names first count x fault
BreaksAt names first count (x ∷ xs) (suc k) fault =
    (tokens : List Token) × AreAllowed count x tokens × (u : SourceUnit) × IsUnit x (interned x tokens names) tokens first u
    × BreaksAt (interned x tokens names) (first + size.unit u) (count + length tokens) xs k fault

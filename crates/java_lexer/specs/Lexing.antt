-- The tokens of a whole text.
use Rattle.std.specs.Prelude.{◌≡◌, ◌⊎◌, ◌<◌, ℕ, ◌+◌, if◌then◌else◌, List, [], ◌∷◌, length, take, drop, Option, Some, None, Result, Ok, Err}
use Rattle.std.specs.List.{list_any}
use Rattle.java_tree.specs.declared.tree.Token.{Token}
use Rattle.java_tree.specs.declared.tree.Kind.{Kind}
use Rattle.java_tree.specs.declared.tree.Kind.TheVariants as k
use Rattle.java_lexer.specs.declared.piece.Class.{Class}
use Rattle.java_lexer.specs.declared.piece.Class.TheVariants as c
use Rattle.java_lexer.specs.declared.piece.Piece.{Piece}
use Rattle.java_lexer.specs.declared.piece.Rule.{Rule}
use Rattle.java_lexer.specs.declared.fault.LexFault.{LexFault}
use Rattle.java_lexer.specs.declared.fault.LexFault.TheVariants.{Bad, NoMemory}
use Rattle.java_lexer.specs.Bytes.{is_keyword, is_long}
use Rattle.java_lexer.specs.Encoding.{IsPlain, IsFirstOdd}
use Rattle.java_lexer.specs.Faults.{IsFirst, IsFault, number}

-- The kind of a piece, by its text. White space and comments have none.
abbrev pub kind : Class → List ℕ → Option Kind
kind c.Blank w = None
kind c.LineComment w = None
kind c.BlockComment w = None
kind c.Word w = Some (if is_keyword w then k.Keyword else k.Word)
kind c.Integer w = Some (if list_any is_long w then k.Long else k.Int)
kind c.Floating w = Some k.Float
kind c.Character w = Some k.Char
kind c.Text w = Some k.Text
kind c.Operator w = Some k.Op

-- the text is these pieces, and then the rest
abbrev pub Covers : List ℕ → List Piece → List ℕ → Type 0
Covers bs [] rest = bs ≡ rest
Covers bs (p ∷ ps) rest = IsFirst p bs × Covers (drop p.len bs) ps rest

-- in front of tokens: the token of a piece of some length that begins at a place, if it has one
abbrev pub with_token : Option Kind → ℕ → ℕ → List Token → List Token
with_token None at len ts = ts
with_token (Some a) at len ts = (record { kind = a; span = record { from = at; to = at + len } }) ∷ ts

-- the tokens of pieces of a text that begins at a place
abbrev pub tokens_of : ℕ → List ℕ → List Piece → List Token
tokens_of at bs [] = []
tokens_of at bs (p ∷ ps) = with_token (kind p.class (take p.len bs)) at p.len (tokens_of (at + p.len) (drop p.len bs) ps)

pub record Lexes (text : List ℕ) (ts : List Token) : Type 0 where
  pub plain : IsPlain text
  pub pieces : List Piece
  pub covers : Covers text pieces []
  pub tokens : ts ≡ tokens_of 0 text pieces

-- all before the place is pieces, and the rule is broken there
pub record Breaks (text : List ℕ) (rule : Rule) (at : ℕ) : Type 0 where
  pub plain : IsPlain text
  pub pieces : List Piece
  pub rest : List ℕ
  pub covers : Covers text pieces rest
  pub place : at + length rest ≡ length text
  pub some : 0 < length rest
  pub fault : IsFault rule rest

-- The rule with this number is the first that is broken, and it is broken at this place. X6 is looked for in the whole text before the others.
abbrev pub Fails : List ℕ → ℕ → ℕ → Type 0
Fails text n at = ((n ≡ 6) × IsFirstOdd text at) ⊎ ((rule : Rule) × (n ≡ number rule) × Breaks text rule at)

-- an answer is right
abbrev pub Answers : List ℕ → Result (List Token) LexFault → Type 0
Answers text (Ok ts) = Lexes text ts
Answers text (Err (Bad rule at)) = Fails text rule at
Answers text (Err NoMemory) = Unit {0}

-- the answer where the text has these tokens
abbrev pub IsLexed : Result (List Token) LexFault → List Token → Type 0
IsLexed (Ok ts) us = ts ≡ us
IsLexed (Err (Bad rule at)) us = ⊥
IsLexed (Err NoMemory) us = Unit {0}

-- the answer where it breaks this rule there
abbrev pub IsRefused : Result (List Token) LexFault → ℕ → ℕ → Type 0
IsRefused (Ok ts) n place = ⊥
IsRefused (Err (Bad rule at)) n place = (rule ≡ n) × (at ≡ place)
IsRefused (Err NoMemory) n place = Unit {0}

-- Texts that are put together: which pieces may follow each other, and where tokens are then.
use Rattle.std.specs.Prelude.{◌≡◌, ◌⊎◌, ◌<◌, ℕ, ◌+◌, ◌-◌, Bool, true, ◌||◌, ◌==◌, if◌then◌else◌, List, [], ◌∷◌, ◌++◌, length, map}
use Rattle.java_tree.specs.declared.tree.Token.{Token}
use Rattle.java_lexer.specs.declared.piece.Class.{Class}
use Rattle.java_lexer.specs.declared.piece.Class.TheVariants as c
use Rattle.java_lexer.specs.declared.piece.Piece.{Piece}
use Rattle.java_tree.specs.declared.tree.Kind.TheVariants as k
use Rattle.java_lexer.specs.Bytes.{is_line_end, is_blank, is_start, is_keyword}
use Rattle.java_lexer.specs.Encoding.{IsPlain}
use Rattle.java_lexer.specs.Pieces.{IsFront}
use Rattle.java_lexer.specs.Lexing.{Covers, tokens_of}

-- ( ) { } [ ] ; ,
abbrev pub is_bracket : ℕ → Bool
is_bracket b = (b == 40) || (b == 41) || (b == 123) || (b == 125) || (b == 91) || (b == 93) || (b == 59) || (b == 44)

-- no piece but a comment or a literal in quotes goes on with the byte
abbrev pub is_stop : ℕ → Bool
is_stop b = is_blank b || is_bracket b

-- Behind a piece of the class, and whatever stands before it, a piece that begins with the byte stands by itself.
abbrev pub is_apart : Class → ℕ → Bool
is_apart c.LineComment b = is_line_end b
is_apart c.Blank b = is_stop b || is_start b
is_apart c.BlockComment b = is_stop b || is_start b
is_apart c.Operator b = is_stop b || is_start b
is_apart _ b = is_stop b

abbrev pub Follows : Class → List ℕ → Type 0
Follows c [] = Unit {0}
Follows c (b ∷ bs) = is_apart c b ≡ true

-- the class of the last piece; white space does no harm in front of anything, so an empty list has it
abbrev pub last_class : List Piece → Class
last_class [] = c.Blank
last_class (p ∷ []) = p.class
last_class (p ∷ q ∷ ps) = last_class (q ∷ ps)

-- A text of tokens whose front ends where a piece ends: the class of the front's last piece, the tokens of the front, and those behind it.
pub record IsCut (front back : List ℕ) (last : Class) (before after : List Token) : Type 0 where
  pub plain : IsPlain (front ++ back)
  pub ahead : List Piece
  pub behind : List Piece
  pub covers : Covers (front ++ back) ahead back
  pub covers_behind : Covers back behind []
  pub last_is : last_class ahead ≡ last
  pub before_is : before ≡ tokens_of 0 (front ++ back) ahead
  pub after_is : after ≡ tokens_of (length front) back behind

-- a token, where the text that it is in begins at `to` instead of `from`
abbrev pub moved : ℕ → ℕ → Token → Token
moved from to t = record { kind = t.kind; span = record { from = t.span.from + to - from; to = t.span.to + to - from } }

-- a word: an identifier or a keyword
abbrev pub IsWord : List ℕ → Type 0
IsWord w = IsFront c.Word (length w) w

-- the token of a word at the start of a text
abbrev pub word_token : List ℕ → Token
word_token w = record { kind = if is_keyword w then k.Keyword else k.Word; span = record { from = 0; to = length w } }

-- words, each behind a space
abbrev pub spaced : List (List ℕ) → List ℕ
spaced [] = []
spaced (w ∷ ws) = 32 ∷ (w ++ spaced ws)

abbrev pub AreWords : List (List ℕ) → Type 0
AreWords [] = Unit {0}
AreWords (w ∷ ws) = IsWord w × AreWords ws

-- their tokens, and those of a text behind them that began at a place in another text
abbrev pub with_words : ℕ → List (List ℕ) → List Token → List Token
with_words from [] ts = map (moved from 0) ts
with_words from (w ∷ ws) ts = map (moved 0 1) (word_token w ∷ map (moved 0 (length w)) (with_words from ws ts))

-- The last of the tokens, if there is one, ends before the place or is an operator.
abbrev pub IsLoose : ℕ → List Token → Type 0
IsLoose at [] = Unit {0}
IsLoose at (t ∷ []) = (t.span.to < at) ⊎ (t.kind ≡ k.Op)
IsLoose at (t ∷ u ∷ ts) = IsLoose at (u ∷ ts)

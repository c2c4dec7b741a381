-- What stands first in a text: a piece, or what no piece is.
use Rattle.std.specs.Prelude.{◌≡◌, ◌⊎◌, ◌≤◌, ℕ, true, false, List, ◌∷◌, Result, Ok, Err}
use Rattle.java_lexer.specs.declared.piece.Class.{Class}
use Rattle.java_lexer.specs.declared.piece.Class.TheVariants as c
use Rattle.java_lexer.specs.declared.piece.Piece.{Piece}
use Rattle.java_lexer.specs.declared.piece.Rule.{Rule}
use Rattle.java_lexer.specs.declared.piece.Rule.TheVariants as r
use Rattle.java_lexer.specs.Bytes.{head, is_zero, is_octal, is_past_octal, is_hex, is_x, is_slash, is_star, is_quote, is_double_quote}
use Rattle.java_lexer.specs.Forms.{Nothing, One, Many}
use Rattle.java_lexer.specs.Pieces.{IsFront}

-- no piece of the class begins there
abbrev pub HasNo : Class → List ℕ → Type 0
HasNo class bs = (n : ℕ) → IsFront class n bs → ⊥

-- `0x` without a digit behind it
abbrev pub IsBareHex : List ℕ → Type 0
IsBareHex (b ∷ x ∷ bs) = (is_zero b ≡ true) × (is_x x ≡ true) × (is_hex (head bs) ≡ false)
IsBareHex _ = ⊥

-- an 8 or 9 among the digits behind a 0
abbrev pub IsBadOctal : List ℕ → Type 0
IsBadOctal bs = (n : ℕ) × One is_zero (Many is_octal (One is_past_octal Nothing)) n bs

abbrev pub IsBadNumber : List ℕ → Type 0
IsBadNumber bs = (IsBareHex bs ⊎ IsBadOctal bs) × HasNo c.Floating bs

abbrev pub IsBadCharacter : List ℕ → Type 0
IsBadCharacter bs = (is_quote (head bs) ≡ true) × HasNo c.Character bs

abbrev pub IsBadText : List ℕ → Type 0
IsBadText bs = (is_double_quote (head bs) ≡ true) × HasNo c.Text bs

abbrev pub IsOpenComment : List ℕ → Type 0
IsOpenComment (b ∷ x ∷ bs) = (is_slash b ≡ true) × (is_star x ≡ true) × HasNo c.BlockComment (b ∷ x ∷ bs)
IsOpenComment _ = ⊥

-- a number, a literal or a comment begins that is none
abbrev pub IsBroken : List ℕ → Type 0
IsBroken bs = IsBadNumber bs ⊎ IsBadCharacter bs ⊎ IsBadText bs ⊎ IsOpenComment bs

-- nothing begins there
abbrev pub IsStray : List ℕ → Type 0
IsStray bs = ((class : Class) → HasNo class bs) × (IsBroken bs → ⊥)

abbrev pub IsFault : Rule → List ℕ → Type 0
IsFault r.Stray = IsStray
IsFault r.Number = IsBadNumber
IsFault r.Character = IsBadCharacter
IsFault r.Text = IsBadText
IsFault r.Comment = IsOpenComment

-- X1 to X5
abbrev pub number : Rule → ℕ
number r.Stray = 1
number r.Number = 2
number r.Character = 3
number r.Text = 4
number r.Comment = 5

-- The first piece is the longest there is. None begins where something is broken.
pub record IsFirst (p : Piece) (bs : List ℕ) : Type 0 where
  pub front : IsFront p.class p.len bs
  pub longest : (class : Class) (n : ℕ) → IsFront class n bs → n ≤ p.len
  pub whole : IsBroken bs → ⊥

-- what an answer says of the text in front
abbrev pub Told : List ℕ → Result Piece Rule → Type 0
Told bs (Ok p) = IsFirst p bs
Told bs (Err rule) = IsFault rule bs

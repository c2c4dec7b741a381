-- The first piece of a text, as a function.
use Rattle.std.specs.Prelude.{ℕ, ◌+◌, nat_lt, Bool, not, ◌&&◌, ◌||◌, ◌==◌, if◌then◌else◌, List, [], ◌∷◌, ◌++◌, drop, Option, None, Some, Result, Ok, Err}
use Rattle.std.specs.List.{prefix_len}
use Rattle.std.specs.Option.{unwrap_or}
use Rattle.java_tree.specs.declared.tree.Token.{Token}
use Rattle.java_tree.specs.declared.tree.Kind.{Kind}
use Rattle.java_lexer.specs.declared.bytes.Set.{Set}
use Rattle.java_lexer.specs.declared.bytes.Set.TheVariants as s
use Rattle.java_lexer.specs.declared.piece.Class.{Class}
use Rattle.java_lexer.specs.declared.piece.Class.TheVariants as class
use Rattle.java_lexer.specs.declared.piece.Piece.{Piece}
use Rattle.java_lexer.specs.declared.piece.Rule.{Rule}
use Rattle.java_lexer.specs.declared.piece.Rule.TheVariants as r
use Rattle.java_lexer.specs.Bytes.{head, in_line, is_blank, is_start, is_part, is_digit, is_nonzero, is_zero, is_octal, is_past_octal, is_hex, is_up_to_three, is_x, is_long, is_exponent, is_sign, is_float, is_dot, is_slash, is_star, is_backslash, is_quote, is_double_quote, is_simple, is_in_text, is_in_char, is_first_of_two, is_first_of_three, is_continuation, is_operator, takes_equals, is_doubled, is_pair, is_triple}
use Rattle.java_lexer.specs.Pieces.{closes_here}
use Rattle.java_lexer.specs.Values.{octal_len}

abbrev pub has : Set → ℕ → Bool
has s.Blank = is_blank
has s.InLine = in_line
has s.Start = is_start
has s.Part = is_part
has s.Digit = is_digit
has s.Nonzero = is_nonzero
has s.Zero = is_zero
has s.Octal = is_octal
has s.PastOctal = is_past_octal
has s.Hex = is_hex
has s.UpToThree = is_up_to_three
has s.X = is_x
has s.Long = is_long
has s.Exponent = is_exponent
has s.Sign = is_sign
has s.Float = is_float
has s.Dot = is_dot
has s.Slash = is_slash
has s.Star = is_star
has s.Backslash = is_backslash
has s.Quote = is_quote
has s.DoubleQuote = is_double_quote
has s.Simple = is_simple
has s.InText = is_in_text
has s.InChar = is_in_char
has s.FirstOfTwo = is_first_of_two
has s.FirstOfThree = is_first_of_three
has s.Continuation = is_continuation
has s.Operator = is_operator
has s.TakesEquals = takes_equals
has s.Doubled = is_doubled

abbrev pub more : ℕ → Option ℕ → Option ℕ
more n None = None
more n (Some m) = Some (m + n)

-- 1 where the first byte passes
abbrev pub one_len : (ℕ → Bool) → List ℕ → ℕ
one_len p [] = 0
one_len p (b ∷ bs) = if p b then 1 else 0

-- ---- numbers

-- digits and a suffix
abbrev pub digits : (ℕ → Bool) → (ℕ → Bool) → List ℕ → ℕ
digits p q bs = prefix_len p bs + one_len q (drop (prefix_len p bs) bs)

abbrev pub hexadecimal : List ℕ → Option ℕ
hexadecimal bs = if is_hex (head bs) then Some (digits is_hex is_long bs + 2) else None

abbrev pub octal : List ℕ → Option ℕ
octal bs = if is_past_octal (head (drop (prefix_len is_octal bs) bs)) then None else Some (digits is_octal is_long bs + 1)

abbrev pub after_zero : List ℕ → Option ℕ
after_zero [] = octal []
after_zero (x ∷ bs) = if is_x x then hexadecimal bs else octal (x ∷ bs)

abbrev pub integer : ℕ → List ℕ → Option ℕ
integer b bs = if is_zero b then after_zero bs else Some (digits is_digit is_long bs + 1)

abbrev pub exponent_digits : List ℕ → Option ℕ
exponent_digits bs = if is_digit (head bs) then Some (digits is_digit is_float bs) else None

abbrev pub signed : List ℕ → Option ℕ
signed [] = None
signed (b ∷ bs) = if is_sign b then more 1 (exponent_digits bs) else exponent_digits (b ∷ bs)

abbrev pub exponent : List ℕ → Option ℕ
exponent [] = None
exponent (b ∷ bs) = if is_exponent b then more 1 (signed bs) else None

abbrev pub float_end : List ℕ → ℕ
float_end bs = unwrap_or (exponent bs) (one_len is_float bs)

abbrev pub fraction : List ℕ → ℕ
fraction bs = prefix_len is_digit bs + float_end (drop (prefix_len is_digit bs) bs)

abbrev pub after_digits : List ℕ → Option ℕ
after_digits [] = None
after_digits (b ∷ bs) = if is_dot b then Some (fraction bs + 1) else (if is_float b then Some 1 else exponent (b ∷ bs))

abbrev pub floating : List ℕ → Option ℕ
floating bs = more (prefix_len is_digit bs + 1) (after_digits (drop (prefix_len is_digit bs) bs))

abbrev pub piece : Class → ℕ → Result Piece Rule
piece of len = Ok (record { class = of; len = len })

abbrev pub piece_or : Class → Option ℕ → Result Piece Rule → Result Piece Rule
piece_or of None other = other
piece_or of (Some n) other = piece of n

abbrev pub number_piece : ℕ → List ℕ → Result Piece Rule
number_piece b bs = piece_or class.Floating (floating bs) (piece_or class.Integer (integer b bs) (Err r.Number))

-- ---- literals, behind the opening quote

-- the first character of a string, and 0 where there is none
abbrev pub text_char : List ℕ → ℕ
text_char [] = 0
text_char (b ∷ []) = if is_in_text b then 1 else 0
text_char (b ∷ c ∷ bs) = if is_in_text b then 1 else (if is_backslash b && (is_simple c || is_octal c) then 2 else 0)

abbrev pub quoted : List ℕ → Option ℕ
quoted [] = None
quoted (b ∷ []) = if is_double_quote b then Some 1 else None
quoted (b ∷ c ∷ bs) =
    if is_double_quote b then Some 1
    else (if is_in_text b then more 1 (quoted (c ∷ bs))
    else (if is_backslash b && (is_simple c || is_octal c) then more 2 (quoted bs) else None))

abbrev pub escape_in_char : List ℕ → ℕ
escape_in_char bs = if is_simple (head bs) then 2 else (if is_octal (head bs) then octal_len bs + 1 else 0)

-- one unit of two or three bytes
abbrev pub wide_len : ℕ → List ℕ → ℕ
wide_len b [] = 0
wide_len b (c ∷ []) = if is_first_of_two b && is_continuation c then 2 else 0
wide_len b (c ∷ d ∷ bs) =
    if is_first_of_two b && is_continuation c then 2
    else (if is_first_of_three b && is_continuation c && is_continuation d then 3 else 0)

-- one unit or escape, and 0 where there is none
abbrev pub unit_len : List ℕ → ℕ
unit_len [] = 0
unit_len (b ∷ bs) = if is_in_char b then 1 else (if is_backslash b then escape_in_char bs else wide_len b bs)

abbrev pub character : List ℕ → Option ℕ
character bs = if nat_lt 0 (unit_len bs) && is_quote (head (drop (unit_len bs) bs)) then Some (unit_len bs + 1) else None

-- ---- the rest

abbrev pub closing : List ℕ → Option ℕ
closing [] = None
closing (b ∷ bs) = if closes_here b bs then Some 2 else more 1 (closing bs)

abbrev pub single_len : ℕ → ℕ
single_len b = if is_operator b then 1 else 0

abbrev pub pair_len : ℕ → ℕ → ℕ
pair_len b c = if is_pair b c then 2 else single_len b

abbrev pub operator_len : List ℕ → ℕ
operator_len [] = 0
operator_len (b ∷ []) = single_len b
operator_len (b ∷ c ∷ []) = pair_len b c
operator_len (b ∷ c ∷ d ∷ bs) = if is_triple b c d then 3 else pair_len b c

abbrev pub operator : List ℕ → Result Piece Rule
operator bs = if operator_len bs == 0 then Err r.Stray else piece class.Operator (operator_len bs)

-- of a text that begins with a slash
abbrev pub slash : List ℕ → Result Piece Rule
slash [] = operator []
slash (b ∷ []) = operator (b ∷ [])
slash (b ∷ c ∷ bs) =
    if is_slash c then piece class.LineComment (prefix_len in_line bs + 2)
    else (if is_star c then piece_or class.BlockComment (more 2 (closing bs)) (Err r.Comment) else operator (b ∷ c ∷ bs))

-- of a text that begins with a point
abbrev pub point : List ℕ → Result Piece Rule
point [] = operator []
point (b ∷ bs) = if is_digit (head bs) then piece class.Floating (fraction bs + 1) else operator (b ∷ bs)

abbrev pub other : ℕ → List ℕ → Result Piece Rule
other b bs =
    if is_double_quote b then piece_or class.Text (more 1 (quoted bs)) (Err r.Text)
    else (if is_quote b then piece_or class.Character (more 1 (character bs)) (Err r.Character)
    else (if is_slash b then slash (b ∷ bs)
    else (if is_dot b then point (b ∷ bs) else operator (b ∷ bs))))

abbrev pub first : List ℕ → Result Piece Rule
first [] = Err r.Stray
first (b ∷ bs) =
    if is_blank b then piece class.Blank 1
    else (if is_start b then piece class.Word (prefix_len is_part bs + 1)
    else (if is_digit b then number_piece b bs else other b bs))

-- ---- Unicode escapes, with what stands in front of the text in `odd`

abbrev pub begins_escape : Bool → ℕ → List ℕ → Bool
begins_escape odd b bs = not odd && is_backslash b && (head bs == 117)

abbrev pub first_escape : Bool → List ℕ → Option ℕ
first_escape odd [] = None
first_escape odd (b ∷ bs) = if begins_escape odd b bs then Some 0 else more 1 (first_escape (is_backslash b && not odd) bs)

-- tokens, and that of a piece behind them
abbrev pub added : List Token → Option Kind → ℕ → ℕ → List Token
added ts None from to = ts
added ts (Some a) from to = ts ++ (record { kind = a; span = record { from = from; to = to } }) ∷ []

-- ---- keywords

-- the words that begin with a byte
unfoldable pub with_head : ℕ → List (List ℕ) → List (List ℕ)
with_head b [] = []
with_head b (w ∷ ws) = if head w == b then w ∷ with_head b ws else with_head b ws

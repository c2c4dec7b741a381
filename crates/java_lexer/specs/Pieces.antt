-- The pieces of a text: white space, comments and tokens (JLS 3.5 to 3.12).
use Rattle.std.specs.Prelude.{◌≡◌, ◌⊎◌, ℕ, zero, suc, true, false, ◌&&◌, Bool, List, [], ◌∷◌}
use Rattle.java_lexer.specs.declared.piece.Class.{Class}
use Rattle.java_lexer.specs.declared.piece.Class.TheVariants as c
use Rattle.java_lexer.specs.Bytes.{head, in_line, is_blank, is_start, is_part, is_digit, is_nonzero, is_zero, is_octal, is_hex, is_up_to_three, is_x, is_long, is_exponent, is_sign, is_float, is_dot, is_slash, is_star, is_backslash, is_quote, is_double_quote, is_simple, is_in_text, is_in_char, is_first_of_two, is_first_of_three, is_continuation, is_operator, is_pair, is_triple}
use Rattle.java_lexer.specs.Forms.{Nothing, One, Many, Or, Maybe}

-- ---- comments (JLS 3.7)

abbrev pub closes_here : ℕ → List ℕ → Bool
closes_here b bs = is_star b && is_slash (head bs)

-- the n bytes end with the first `*/`
abbrev pub Closes : ℕ → List ℕ → Type 0
Closes zero bs = ⊥
Closes (suc n) [] = ⊥
Closes (suc n) (b ∷ bs) = ((closes_here b bs ≡ true) × (n ≡ 1)) ⊎ ((closes_here b bs ≡ false) × Closes n bs)

-- ---- numbers (JLS 3.10.1, 3.10.2)

-- Decimal, octal and hexadecimal. 0 alone stands with the octal numbers.
abbrev pub IsInteger : ℕ → List ℕ → Type 0
IsInteger =
    Or (One is_nonzero (Many is_digit (Maybe is_long Nothing)))
    (Or (One is_zero (Many is_octal (Maybe is_long Nothing)))
    (One is_zero (One is_x (One is_hex (Many is_hex (Maybe is_long Nothing))))))

abbrev pub FloatEnd : ℕ → List ℕ → Type 0
FloatEnd = Maybe is_float Nothing

-- an exponent, and then perhaps a suffix
abbrev pub Exponent : ℕ → List ℕ → Type 0
Exponent = One is_exponent (Maybe is_sign (One is_digit (Many is_digit FloatEnd)))

-- behind the point
abbrev pub Fraction : ℕ → List ℕ → Type 0
Fraction = Many is_digit (Or FloatEnd Exponent)

-- digits with a point, an exponent or a suffix, or digits behind a point
abbrev pub IsFloating : ℕ → List ℕ → Type 0
IsFloating =
    Or (One is_digit (Many is_digit (Or (One is_dot Fraction) (Or Exponent (One is_float Nothing)))))
    (One is_dot (One is_digit Fraction))

-- ---- character and string literals (JLS 3.10.4 to 3.10.6)

abbrev pub Escape : (ℕ → List ℕ → Type 0) → ℕ → List ℕ → Type 0
Escape Then =
    One is_backslash
    (Or (One is_simple Then) (Or (One is_octal Then) (Or (One is_octal (One is_octal Then)) (One is_up_to_three (One is_octal (One is_octal Then))))))

-- a character that is one UTF-16 unit, in UTF-8
abbrev pub OneUnit : (ℕ → List ℕ → Type 0) → ℕ → List ℕ → Type 0
OneUnit Then =
    Or (One is_in_char Then) (Or (One is_first_of_two (One is_continuation Then)) (One is_first_of_three (One is_continuation (One is_continuation Then))))

abbrev pub IsCharacter : ℕ → List ℕ → Type 0
IsCharacter = One is_quote (Or (OneUnit (One is_quote Nothing)) (Escape (One is_quote Nothing)))

-- Up to the closing quote. Of an octal escape the later digits stand for themselves here, since only the length is told.
abbrev pub Quoted : ℕ → List ℕ → Type 0
Quoted zero bs = ⊥
Quoted (suc n) [] = ⊥
Quoted (suc zero) (b ∷ bs) = is_double_quote b ≡ true
Quoted (suc (suc n)) (b ∷ []) = ⊥
Quoted (suc (suc n)) (b ∷ c ∷ bs) =
    ((is_in_text b ≡ true) × Quoted (suc n) (c ∷ bs)) ⊎ ((is_backslash b ≡ true) × ((is_simple c ≡ true) ⊎ (is_octal c ≡ true)) × Quoted n bs)

-- ---- operators and separators (JLS 3.11, 3.12)

abbrev pub IsOperator : ℕ → List ℕ → Type 0
IsOperator (suc zero) (b ∷ bs) = is_operator b ≡ true
IsOperator (suc (suc zero)) (b ∷ c ∷ bs) = is_pair b c ≡ true
IsOperator (suc (suc (suc zero))) (b ∷ c ∷ d ∷ bs) = is_triple b c d ≡ true
IsOperator _ _ = ⊥

-- The first n bytes are a piece of the class. A line comment ends before the end of its line.
abbrev pub IsFront : Class → ℕ → List ℕ → Type 0
IsFront c.Blank = One is_blank Nothing
IsFront c.LineComment = One is_slash (One is_slash (Many in_line Nothing))
IsFront c.BlockComment = One is_slash (One is_star Closes)
IsFront c.Word = One is_start (Many is_part Nothing)
IsFront c.Integer = IsInteger
IsFront c.Floating = IsFloating
IsFront c.Character = IsCharacter
IsFront c.Text = One is_double_quote Quoted
IsFront c.Operator = IsOperator

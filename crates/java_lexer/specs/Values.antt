-- The values of literals, by the bytes of their tokens (JLS 3.10).
use Rattle.std.specs.Prelude.{ℕ, zero, suc, ◌+◌, ◌-◌, ◌*◌, ◌^◌, min, nat_lt, Bool, not, ◌&&◌, ◌||◌, ◌==◌, if◌then◌else◌, List, [], ◌∷◌, ◌++◌, take, drop, Option, Some, None}
use Rattle.std.specs.Char.{digit_value}
use Rattle.std.specs.Char.Escape.{encode_utf16}
use Rattle.std.specs.List.{prefix_len}
use Rattle.std.specs.Str.{continuation_len, lead_bits}
use Rattle.java_lexer.specs.Bytes.{head, is_zero, is_octal, is_up_to_three, is_x, is_long, is_backslash, is_double_quote}

-- ---- integers (JLS 3.10.1)

-- the number that digits go on to write, up to the suffix
abbrev pub written : ℕ → ℕ → List ℕ → ℕ
written base n [] = n
written base n (b ∷ bs) = if is_long b then n else written base (n * base + digit_value b) bs

abbrev pub integer_value : List ℕ → ℕ
integer_value w =
    if is_x (head (drop 1 w)) then written 16 0 (drop 2 w)
    else (if is_zero (head w) then written 8 0 w else written 10 0 w)

-- neither hexadecimal nor octal: 0 alone is decimal
abbrev pub is_decimal : List ℕ → Bool
is_decimal w = not (is_zero (head w) && (is_x (head (drop 1 w)) || is_octal (head (drop 1 w))))

-- below 2^64
abbrev pub in_u64 : ℕ → Option ℕ
in_u64 n = if nat_lt n (2 ^ 64) then Some n else None

-- ---- characters and strings (JLS 3.10.4 to 3.10.6), as UTF-16 units

-- what a simple escape stands for
abbrev pub simple_escape : ℕ → ℕ
simple_escape b =
    if b == 98 then 8
    else if b == 116 then 9
    else if b == 110 then 10
    else if b == 102 then 12
    else if b == 114 then 13
    else b

-- how many octal digits an escape has: at most three, if the first is 0 to 3, else two
abbrev pub octal_len : List ℕ → ℕ
octal_len bs = min (if is_up_to_three (head bs) then 3 else 2) (prefix_len is_octal bs)

-- how many bytes an escape has behind its `\`, and the unit that it stands for
abbrev pub escape_len : List ℕ → ℕ
escape_len bs = if is_octal (head bs) then octal_len bs else 1

abbrev pub escape_unit : List ℕ → ℕ
escape_unit bs = if is_octal (head bs) then written 8 0 (take (octal_len bs) bs) else simple_escape (head bs)

-- the character that n bytes of UTF-8 go on to write
abbrev pub decoded : ℕ → ℕ → List ℕ → ℕ
decoded zero c bs = c
decoded (suc n) c [] = c
decoded (suc n) c (b ∷ bs) = decoded n (c * 64 + (b - 128)) bs

-- The units up to the closing quote. The first n bytes belong to what came before.
abbrev pub units : ℕ → List ℕ → List ℕ
units n [] = []
units (suc n) (b ∷ bs) = units n bs
units zero (b ∷ bs) =
    if is_double_quote b then []
    else (if is_backslash b then escape_unit bs ∷ units (escape_len bs) bs
    else encode_utf16 (decoded (continuation_len b) (lead_bits b) bs) ++ units (continuation_len b) bs)

-- of a string literal
abbrev pub text_units : List ℕ → List ℕ
text_units w = units 0 (drop 1 w)

-- the unit or the first of two units at the front
abbrev pub front_unit : List ℕ → ℕ
front_unit [] = 0
front_unit (b ∷ bs) = if is_backslash b then escape_unit bs else head (encode_utf16 (decoded (continuation_len b) (lead_bits b) bs))

-- of a character literal, which has one unit
abbrev pub char_unit : List ℕ → ℕ
char_unit w = front_unit (drop 1 w)

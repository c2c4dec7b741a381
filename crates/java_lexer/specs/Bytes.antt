-- Bytes by what they may be in a text (JLS 3.4 to 3.12).
use Rattle.std.specs.Prelude.{ℕ, nat_le, nat_lt, Bool, not, ◌&&◌, ◌||◌, ◌==◌, List, [], ◌∷◌, codes}
use Rattle.std.specs.Char.{is_ascii_digit, is_ascii_alphabetic}
use Rattle.std.specs.List.{list_any}
use Rattle.std.specs.Str.{bytes_eq}
pub use Rattle.std.specs.Char.{is_ascii_digit as is_digit, is_ascii_hexdigit as is_hex}

-- the first byte, and 0 where there is none
abbrev pub head : List ℕ → ℕ
head [] = 0
head (b ∷ bs) = b

-- LF, CR
abbrev pub is_line_end : ℕ → Bool
is_line_end b = (b == 10) || (b == 13)

abbrev pub in_line : ℕ → Bool
in_line b = not (is_line_end b)

-- space, tab, form feed and the line ends
abbrev pub is_blank : ℕ → Bool
is_blank b = (b == 32) || (b == 9) || (b == 12) || is_line_end b

-- ASCII letters, `_` and `$`
abbrev pub is_start : ℕ → Bool
is_start b = is_ascii_alphabetic b || (b == 95) || (b == 36)

-- these and digits
abbrev pub is_part : ℕ → Bool
is_part b = is_start b || is_ascii_digit b

-- 1 to 9
abbrev pub is_nonzero : ℕ → Bool
is_nonzero b = nat_le 49 b && nat_le b 57

abbrev pub is_zero : ℕ → Bool
is_zero b = b == 48

abbrev pub is_octal : ℕ → Bool
is_octal b = nat_le 48 b && nat_le b 55

-- `8 9`
abbrev pub is_past_octal : ℕ → Bool
is_past_octal b = (b == 56) || (b == 57)

abbrev pub is_up_to_three : ℕ → Bool
is_up_to_three b = nat_le 48 b && nat_le b 51

-- `x X`
abbrev pub is_x : ℕ → Bool
is_x b = (b == 120) || (b == 88)

-- `l L`
abbrev pub is_long : ℕ → Bool
is_long b = (b == 108) || (b == 76)

-- `e E`
abbrev pub is_exponent : ℕ → Bool
is_exponent b = (b == 101) || (b == 69)

-- `+ -`
abbrev pub is_sign : ℕ → Bool
is_sign b = (b == 43) || (b == 45)

-- `f F d D`
abbrev pub is_float : ℕ → Bool
is_float b = (b == 102) || (b == 70) || (b == 100) || (b == 68)

abbrev pub is_dot : ℕ → Bool
is_dot b = b == 46

abbrev pub is_slash : ℕ → Bool
is_slash b = b == 47

abbrev pub is_star : ℕ → Bool
is_star b = b == 42

abbrev pub is_backslash : ℕ → Bool
is_backslash b = b == 92

-- '
abbrev pub is_quote : ℕ → Bool
is_quote b = b == 39

-- "
abbrev pub is_double_quote : ℕ → Bool
is_double_quote b = b == 34

-- `b t n f r " ' \`, behind a `\`
abbrev pub is_simple : ℕ → Bool
is_simple b = (b == 98) || (b == 116) || (b == 110) || (b == 102) || (b == 114) || (b == 34) || (b == 39) || (b == 92)

-- what may stand in a string literal by itself: no `"`, `\` or line end
abbrev pub is_in_text : ℕ → Bool
is_in_text b = not (is_double_quote b || is_backslash b || is_line_end b)

-- an ASCII byte that may stand between single quotes by itself: no `'`, `\` or line end
abbrev pub is_in_char : ℕ → Bool
is_in_char b = nat_lt b 128 && not (is_quote b || is_backslash b || is_line_end b)

-- the first bytes of characters of two and of three bytes in UTF-8: those up to U+FFFF
abbrev pub is_first_of_two : ℕ → Bool
is_first_of_two b = nat_le 192 b && nat_lt b 224

abbrev pub is_first_of_three : ℕ → Bool
is_first_of_three b = nat_le 224 b && nat_lt b 240

-- the other bytes of these
abbrev pub is_continuation : ℕ → Bool
is_continuation b = nat_le 128 b && nat_lt b 192

-- The operators and separators of one byte, and `@`:  ( ) { } [ ] ; , . = > < ! ~ ? : + - * / & | ^ % @
abbrev pub is_operator : ℕ → Bool
is_operator b =
    (b == 40) || (b == 41) || (b == 123) || (b == 125) || (b == 91) || (b == 93) || (b == 59) || (b == 44) || (b == 46)
    || (b == 61) || (b == 62) || (b == 60) || (b == 33) || (b == 126) || (b == 63) || (b == 58)
    || (b == 43) || (b == 45) || (b == 42) || (b == 47) || (b == 38) || (b == 124) || (b == 94) || (b == 37) || (b == 64)

-- those that make another with `=` behind them:  = > < ! + - * / & | ^ %
abbrev pub takes_equals : ℕ → Bool
takes_equals b =
    (b == 61) || (b == 62) || (b == 60) || (b == 33) || (b == 43) || (b == 45) || (b == 42) || (b == 47) || (b == 38) || (b == 124)
    || (b == 94) || (b == 37)

-- those that make another if they stand twice:  + - & | <
abbrev pub is_doubled : ℕ → Bool
is_doubled b = (b == 43) || (b == 45) || (b == 38) || (b == 124) || (b == 60)

-- Two bytes are an operator. `>>` is none.
abbrev pub is_pair : ℕ → ℕ → Bool
is_pair b c = (takes_equals b && (c == 61)) || (is_doubled b && (c == b))

-- three bytes are one:  <<= ...
abbrev pub is_triple : ℕ → ℕ → ℕ → Bool
is_triple b c d = ((b == 60) && (c == 60) && (d == 61)) || ((b == 46) && (c == 46) && (d == 46))

-- the keywords of JLS 3.9, and the three literals that are words
abbrev pub keywords : List (List ℕ)
keywords =
    codes "abstract" ∷ codes "assert" ∷ codes "boolean" ∷ codes "break" ∷ codes "byte" ∷ codes "case" ∷ codes "catch" ∷ codes "char"
    ∷ codes "class" ∷ codes "const" ∷ codes "continue" ∷ codes "default" ∷ codes "do" ∷ codes "double" ∷ codes "else" ∷ codes "enum"
    ∷ codes "extends" ∷ codes "final" ∷ codes "finally" ∷ codes "float" ∷ codes "for" ∷ codes "goto" ∷ codes "if" ∷ codes "implements"
    ∷ codes "import" ∷ codes "instanceof" ∷ codes "int" ∷ codes "interface" ∷ codes "long" ∷ codes "native" ∷ codes "new" ∷ codes "package"
    ∷ codes "private" ∷ codes "protected" ∷ codes "public" ∷ codes "return" ∷ codes "short" ∷ codes "static" ∷ codes "strictfp" ∷ codes "super"
    ∷ codes "switch" ∷ codes "synchronized" ∷ codes "this" ∷ codes "throw" ∷ codes "throws" ∷ codes "transient" ∷ codes "try" ∷ codes "void"
    ∷ codes "volatile" ∷ codes "while" ∷ codes "true" ∷ codes "false" ∷ codes "null" ∷ []

abbrev pub is_keyword : List ℕ → Bool
is_keyword w = list_any (bytes_eq w) keywords

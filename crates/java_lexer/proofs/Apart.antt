-- Sets of bytes that have no byte in common.
use Rattle.std.proofs.Common.{◌≡◌, ℕ, true, false, arith}
use Rattle.std.proofs.lemmas.Bool.Decides.{nat_tests}
use Rattle.java_lexer.specs.Bytes.{is_blank, is_start, is_digit, is_nonzero, is_zero, is_octal, is_past_octal, is_hex, is_up_to_three, is_x, is_long, is_exponent, is_sign, is_float, is_dot, is_slash, is_star, is_backslash, is_quote, is_double_quote, is_simple, is_in_text, is_in_char, is_first_of_two, is_first_of_three, is_operator}

pub long_digit : (b : ℕ) → is_long b ≡ true → is_digit b ≡ false
long_digit b e = grind (arith, nat_tests)

pub long_octal : (b : ℕ) → is_long b ≡ true → is_octal b ≡ false
long_octal b e = grind (arith, nat_tests)

pub long_hex : (b : ℕ) → is_long b ≡ true → is_hex b ≡ false
long_hex b e = grind (arith, nat_tests)

pub float_digit : (b : ℕ) → is_float b ≡ true → is_digit b ≡ false
float_digit b e = grind (arith, nat_tests)

pub float_dot : (b : ℕ) → is_float b ≡ true → is_dot b ≡ false
float_dot b e = grind (arith, nat_tests)

pub float_exponent : (b : ℕ) → is_float b ≡ true → is_exponent b ≡ false
float_exponent b e = grind (arith, nat_tests)

pub float_long : (b : ℕ) → is_float b ≡ true → is_long b ≡ false
float_long b e = grind (arith, nat_tests)

pub exponent_digit : (b : ℕ) → is_exponent b ≡ true → is_digit b ≡ false
exponent_digit b e = grind (arith, nat_tests)

pub exponent_float : (b : ℕ) → is_exponent b ≡ true → is_float b ≡ false
exponent_float b e = grind (arith, nat_tests)

pub exponent_dot : (b : ℕ) → is_exponent b ≡ true → is_dot b ≡ false
exponent_dot b e = grind (arith, nat_tests)

pub exponent_long : (b : ℕ) → is_exponent b ≡ true → is_long b ≡ false
exponent_long b e = grind (arith, nat_tests)

pub sign_digit : (b : ℕ) → is_sign b ≡ true → is_digit b ≡ false
sign_digit b e = grind (arith, nat_tests)

pub dot_digit : (b : ℕ) → is_dot b ≡ true → is_digit b ≡ false
dot_digit b e = grind (arith, nat_tests)

pub dot_float : (b : ℕ) → is_dot b ≡ true → is_float b ≡ false
dot_float b e = grind (arith, nat_tests)

pub dot_exponent : (b : ℕ) → is_dot b ≡ true → is_exponent b ≡ false
dot_exponent b e = grind (arith, nat_tests)

pub dot_long : (b : ℕ) → is_dot b ≡ true → is_long b ≡ false
dot_long b e = grind (arith, nat_tests)

pub x_octal : (b : ℕ) → is_x b ≡ true → is_octal b ≡ false
x_octal b e = grind (arith, nat_tests)

pub x_past : (b : ℕ) → is_x b ≡ true → is_past_octal b ≡ false
x_past b e = grind (arith, nat_tests)

pub x_long : (b : ℕ) → is_x b ≡ true → is_long b ≡ false
x_long b e = grind (arith, nat_tests)

pub x_digit : (b : ℕ) → is_x b ≡ true → is_digit b ≡ false
x_digit b e = grind (arith, nat_tests)

pub past_octal : (b : ℕ) → is_past_octal b ≡ true → is_octal b ≡ false
past_octal b e = grind (arith, nat_tests)

pub zero_nonzero : (b : ℕ) → is_zero b ≡ true → is_nonzero b ≡ false
zero_nonzero b e = grind (arith, nat_tests)

pub zero_digit : (b : ℕ) → is_zero b ≡ true → is_digit b ≡ true
zero_digit b e = grind (arith, nat_tests)

pub digit_nonzero : (b : ℕ) → is_digit b ≡ true → is_zero b ≡ false → is_nonzero b ≡ true
digit_nonzero b e f = grind (arith, nat_tests)

pub digit_dot : (b : ℕ) → is_digit b ≡ true → is_dot b ≡ false
digit_dot b e = grind (arith, nat_tests)

pub hex_digit : (b : ℕ) → is_hex b ≡ false → is_digit b ≡ false
hex_digit b e = grind (arith, nat_tests)

pub octal_quote : (b : ℕ) → is_octal b ≡ true → is_quote b ≡ false
octal_quote b e = grind (arith, nat_tests)

pub octal_simple : (b : ℕ) → is_octal b ≡ true → is_simple b ≡ false
octal_simple b e = grind (arith, nat_tests)

pub three_octal : (b : ℕ) → is_octal b ≡ false → is_up_to_three b ≡ false
three_octal b e = grind (arith, nat_tests)

pub double_quote_text : (b : ℕ) → is_double_quote b ≡ true → is_in_text b ≡ false
double_quote_text b e = grind (arith, nat_tests)

pub double_quote_backslash : (b : ℕ) → is_double_quote b ≡ true → is_backslash b ≡ false
double_quote_backslash b e = grind (arith, nat_tests)

pub text_backslash : (b : ℕ) → is_in_text b ≡ true → is_backslash b ≡ false
text_backslash b e = grind (arith, nat_tests)

pub char_backslash : (b : ℕ) → is_in_char b ≡ true → is_backslash b ≡ false
char_backslash b e = grind (arith, nat_tests)

pub char_two : (b : ℕ) → is_in_char b ≡ true → is_first_of_two b ≡ false
char_two b e = grind (arith, nat_tests)

pub char_three : (b : ℕ) → is_in_char b ≡ true → is_first_of_three b ≡ false
char_three b e = grind (arith, nat_tests)

pub backslash_two : (b : ℕ) → is_backslash b ≡ true → is_first_of_two b ≡ false
backslash_two b e = grind (arith, nat_tests)

pub backslash_three : (b : ℕ) → is_backslash b ≡ true → is_first_of_three b ≡ false
backslash_three b e = grind (arith, nat_tests)

pub two_three : (b : ℕ) → is_first_of_two b ≡ true → is_first_of_three b ≡ false
two_three b e = grind (arith, nat_tests)

pub start_blank : (b : ℕ) → is_start b ≡ true → is_blank b ≡ false
start_blank b e = grind (arith, nat_tests)

pub digit_blank : (b : ℕ) → is_digit b ≡ true → is_blank b ≡ false
digit_blank b e = grind (arith, nat_tests)

pub digit_start : (b : ℕ) → is_digit b ≡ true → is_start b ≡ false
digit_start b e = grind (arith, nat_tests)

pub nonzero_digit : (b : ℕ) → is_nonzero b ≡ true → is_digit b ≡ true
nonzero_digit b e = grind (arith, nat_tests)

pub octal_digit : (b : ℕ) → is_octal b ≡ true → is_digit b ≡ true
octal_digit b e = grind (arith, nat_tests)

pub x_dot : (b : ℕ) → is_x b ≡ true → is_dot b ≡ false
x_dot b e = grind (arith, nat_tests)

pub x_float : (b : ℕ) → is_x b ≡ true → is_float b ≡ false
x_float b e = grind (arith, nat_tests)

pub x_exponent : (b : ℕ) → is_x b ≡ true → is_exponent b ≡ false
x_exponent b e = grind (arith, nat_tests)

pub star_slash : (b : ℕ) → is_star b ≡ true → is_slash b ≡ false
star_slash b e = grind (arith, nat_tests)

pub operator_blank : (b : ℕ) → is_operator b ≡ true → is_blank b ≡ false
operator_blank b e = grind (arith, nat_tests)

pub operator_start : (b : ℕ) → is_operator b ≡ true → is_start b ≡ false
operator_start b e = grind (arith, nat_tests)

pub operator_digit : (b : ℕ) → is_operator b ≡ true → is_digit b ≡ false
operator_digit b e = grind (arith, nat_tests)

pub operator_double_quote : (b : ℕ) → is_operator b ≡ true → is_double_quote b ≡ false
operator_double_quote b e = grind (arith, nat_tests)

pub operator_quote : (b : ℕ) → is_operator b ≡ true → is_quote b ≡ false
operator_quote b e = grind (arith, nat_tests)

pub is_slash_byte : (b : ℕ) → is_slash b ≡ true → b ≡ 47
is_slash_byte b e = grind (arith, nat_tests)

pub is_star_byte : (b : ℕ) → is_star b ≡ true → b ≡ 42
is_star_byte b e = grind (arith, nat_tests)

pub is_dot_byte : (b : ℕ) → is_dot b ≡ true → b ≡ 46
is_dot_byte b e = grind (arith, nat_tests)

pub is_quote_byte : (b : ℕ) → is_quote b ≡ true → b ≡ 39
is_quote_byte b e = grind (arith, nat_tests)

pub is_double_quote_byte : (b : ℕ) → is_double_quote b ≡ true → b ≡ 34
is_double_quote_byte b e = grind (arith, nat_tests)

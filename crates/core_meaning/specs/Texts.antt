-- Strings as lists of UTF-16 units: what numbers and truth values say, how strings compare, and what is printed of them.
use Rattle.std.specs.Prelude.{ℕ, ◌==◌, ℤ, pos, negsuc, suc, neg_ℤ, ◌+ℤ◌, ◌-ℤ◌, ◌*ℤ◌, Bool, true, false, List, [], ◌∷◌, flat_map, length, Option, Some, None, slice_get, if◌then◌else◌, codes, chars, decimal, encode_utf8}
use Rattle.std.specs.Int.{w32, cast_unsigned, int_wrap}
use Rattle.std.specs.Fmt.{digits}
use Rattle.std.specs.Char.Escape.{encode_utf16}
use Rattle.std.specs.Char.Utf16.{utf16_chars}
use Rattle.std.specs.Str.{bytes_eq}

-- an int or a long in decimal
abbrev pub number_units : ℤ → List ℕ
number_units (pos n) = decimal n
number_units (negsuc n) = 45 ∷ decimal (suc n)

abbrev pub truth_units : Bool → List ℕ
truth_units true = codes "true"
truth_units false = codes "false"

abbrev pub null_units : List ℕ
null_units = codes "null"

-- an int as an unsigned number, in lower-case hexadecimal
abbrev pub hex_units : ℤ → List ℕ
hex_units z = digits 16 false (cast_unsigned w32 z)

abbrev pub same_units : List ℕ → List ℕ → Bool
same_units xs ys = bytes_eq xs ys

abbrev pub same_text : List ℕ → Option (List ℕ) → Bool
same_text units None = false
same_text units (Some xs) = same_units units xs

-- whether the string of this identity has these units
abbrev pub is_text : List ℕ → (texts : List (List ℕ)) → ℕ → Bool
is_text units texts k = same_text units (slice_get texts k)

-- the sum of s[i] * 31 ^ (n - 1 - i), in int arithmetic; `h` is that of the units before
abbrev pub hash_from : ℤ → List ℕ → ℤ
hash_from h [] = h
hash_from h (c ∷ cs) = hash_from (int_wrap w32 (h *ℤ pos 31 +ℤ pos c)) cs

abbrev pub hash_of : List ℕ → ℤ
hash_of units = hash_from (pos 0) units

-- the difference of the first units that differ, or else of the lengths
abbrev pub difference : List ℕ → List ℕ → ℤ
difference [] ys = neg_ℤ (pos (length ys))
difference (x ∷ xs) [] = pos (length (x ∷ xs))
difference (x ∷ xs) (y ∷ ys) = if x == y then difference xs ys else pos x -ℤ pos y

-- how long a string says it is: the low 32 bits
abbrev pub length_of : List ℕ → ℤ
length_of units = int_wrap w32 (pos (length units))

-- the bytes of a character in UTF-8; a surrogate without its other half is printed as a question mark
abbrev pub character_bytes : Option ℕ → List ℕ
character_bytes None = 63 ∷ []
character_bytes (Some c) = encode_utf8 c

-- what a string prints
abbrev pub printed_bytes : List ℕ → List ℕ
printed_bytes units = flat_map character_bytes (utf16_chars units)

-- the string of an argument, which is given in UTF-8
abbrev pub units_of_bytes : List ℕ → List ℕ
units_of_bytes bytes = flat_map encode_utf16 (chars bytes)

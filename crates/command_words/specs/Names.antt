-- Words by themselves: numbers, identifiers and names of files.
use Rattle.std.specs.Prelude.{◌≡◌, ℕ, ◌<◌, ◌^◌, Bool, true, false, not, ◌||◌, ◌==◌, List, [], ◌∷◌, ◌++◌, ◌-◌, length, take, codes}
use Rattle.std.specs.Fmt.{decimal}
use Rattle.std.specs.List.{list_any, join_with_byte, suffix_len}
use Rattle.std.specs.Str.{bytes_eq}
use Rattle.java_lexer.specs.Bytes.{is_part, is_keyword}
use Rattle.java_lexer.specs.Splice.{IsWord}

-- a word is one of the words
abbrev pub is_among : List ℕ → List (List ℕ) → Bool
is_among w ws = list_any (bytes_eq w) ws

-- the decimal number n, of at most ten digits and without a leading zero
abbrev pub IsNumber : List ℕ → ℕ → Type 0
IsNumber w n = (w ≡ decimal n) × (n < 10 ^ 10)

-- an identifier (JLS 3.8): no keyword, `true`, `false` or `null`
abbrev pub IsIdentifier : List ℕ → Type 0
IsIdentifier w = IsWord w × (is_keyword w ≡ false)

-- an ASCII letter or digit, `_`, `$`, `-` or `.`
abbrev pub is_part_byte : ℕ → Bool
is_part_byte b = is_part b || (b == 45) || (b == 46)

abbrev pub ArePartBytes : List ℕ → Type 0
ArePartBytes [] = Unit {0}
ArePartBytes (b ∷ bs) = (is_part_byte b ≡ true) × ArePartBytes bs

-- a part of a path: a run of such bytes, and neither `.` nor `..`
abbrev pub IsPart : List ℕ → Type 0
IsPart w = ArePartBytes w × (w ≡ [] → ⊥) × (w ≡ codes "." → ⊥) × (w ≡ codes ".." → ⊥)

abbrev pub AreParts : List (List ℕ) → Type 0
AreParts [] = Unit {0}
AreParts (w ∷ ws) = IsPart w × AreParts ws

-- a path: parts, one or more, joined by single `/`
pub record IsPath (name : List ℕ) : Type 0 where
  pub first : List ℕ
  pub later : List (List ℕ)
  pub are : AreParts (first ∷ later)
  pub joined : name ≡ join_with_byte 47 (first ∷ later)

abbrev pub is_no_slash : ℕ → Bool
is_no_slash b = not (b == 47)

-- the folder of a file, with its last `/`: the name without the longest end that has no `/`
abbrev pub folder_of : List ℕ → List ℕ
folder_of name = take (length name - suffix_len is_no_slash name) name

-- the name in the folder OUT
abbrev pub within : List ℕ → List ℕ → List ℕ
within out name = out ++ (47 ∷ name)

-- the name of a file of Java source
abbrev pub source_name : List ℕ → List ℕ
source_name name = name ++ codes ".java"

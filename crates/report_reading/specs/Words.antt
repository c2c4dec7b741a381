-- The words of a report: names of files, kinds and places.
use Rattle.std.specs.Prelude.{◌≡◌, ℕ, ◌<◌, ◌^◌, Bool, true, not, ◌&&◌, ◌||◌, ◌==◌, List, [], length, codes}
use Rattle.std.specs.List.{list_all, slice_split}
use Rattle.std.specs.Char.{is_ascii_alphanumeric}
use Rattle.std.specs.Str.{bytes_eq}
use Rattle.edit_writer.specs.declared.places.Place.{Place}
use Rattle.report_text.specs.Report.{place_text}

-- an ASCII letter or digit, `_`, `$`, `-` or `.`
abbrev pub is_name_byte : ℕ → Bool
is_name_byte b = is_ascii_alphanumeric b || (b == 95) || (b == 36) || (b == 45) || (b == 46)

abbrev pub is_slash : ℕ → Bool
is_slash b = b == 47

abbrev pub is_path_byte : ℕ → Bool
is_path_byte b = is_name_byte b || is_slash b

abbrev pub is_word_byte : ℕ → Bool
is_word_byte b = is_path_byte b || (b == 58)

-- neither empty nor `.` nor `..`
abbrev pub is_part : List ℕ → Bool
is_part part = not ((length part == 0) || bytes_eq part (codes ".") || bytes_eq part (codes ".."))

-- a file: parts of such bytes, joined by single `/`
abbrev pub is_path : List ℕ → Bool
is_path word = list_all is_path_byte word && list_all is_part (slice_split is_slash word)

-- a kind: one or more of the bytes of names
abbrev pub is_kind : List ℕ → Bool
is_kind word = not (length word == 0) && list_all is_name_byte word

-- FILE:LINE:COL
pub record IsPlace (word : List ℕ) : Type 0 where
  pub file : List ℕ
  pub at : Place
  pub path : is_path file ≡ true
  pub line : at.line < 2 ^ 32
  pub col : at.col < 2 ^ 32
  pub text : word ≡ place_text file at

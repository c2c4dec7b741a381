-- Texts that are UTF-8 without Unicode escapes (JLS 3.3).
use Rattle.std.specs.Prelude.{◌≡◌, ◌⊎◌, ◌<◌, ℕ, zero, suc, Bool, true, false, not, ◌&&◌, List, [], ◌∷◌}
use Rattle.std.specs.Str.{IsUtf8, IsValidUpTo}
use Rattle.java_lexer.specs.Bytes.{head, is_backslash}

-- A `\` behind an even number of `\` stands at the place, and `u` stands behind it. `odd` tells of those in front of the text.
abbrev pub IsEscapeAt : Bool → List ℕ → ℕ → Type 0
IsEscapeAt odd [] at = ⊥
IsEscapeAt odd (b ∷ bs) zero = (odd ≡ false) × (is_backslash b ≡ true) × (head bs ≡ 117)
IsEscapeAt odd (b ∷ bs) (suc at) = IsEscapeAt (is_backslash b && not odd) bs at

pub record IsPlain (text : List ℕ) : Type 0 where
  pub utf8 : IsUtf8 text
  pub no_escape : (at : ℕ) → IsEscapeAt false text at → ⊥

-- the text stops being UTF-8 there, or a Unicode escape begins
abbrev pub IsOddAt : List ℕ → ℕ → Type 0
IsOddAt text at = IsValidUpTo text at ⊎ IsEscapeAt false text at

-- X6: the first such place
abbrev pub IsFirstOdd : List ℕ → ℕ → Type 0
IsFirstOdd text at = IsOddAt text at × ((n : ℕ) → n < at → IsOddAt text n → ⊥)

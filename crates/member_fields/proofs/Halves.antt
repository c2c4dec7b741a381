-- A list and its two halves.
use Rattle.std.proofs.Common.{◌≡◌, ℕ, ◌+◌, ◌<◌, suc, Bool, false, List, [], ◌∷◌, ◌++◌, sym, ap, ◌∙◌, length, take, drop, arith}
use Rattle.std.specs.Prelude.{◌==◌, ◌-◌, ◌/◌}
use Rattle.std.proofs.lemmas.Bool.{true≢false}
use Rattle.std.proofs.lemmas.List.{take-append-drop}

pub halves : {A : Type 0} (all left right : List A) (mid : ℕ) → left ≡ take mid all → right ≡ drop mid all → all ≡ left ++ right
halves all left right mid front back = sym (ap (λ l. l ++ right) front ∙ ap (λ l. take mid all ++ l) back ∙ take-append-drop mid all)

-- each half is shorter, where there are two elements or more
pub two_or_more : {A : Type 0} (first : A) (others all : List A) (empty : Bool) → all ≡ first ∷ others → empty ≡ (length others == 0) → empty ≡ false → 1 < length all
two_or_more first [] all empty is same full = absurd (true≢false (sym same ∙ full))
two_or_more first (x ∷ xs) all empty is same full = let size : length all ≡ suc (suc (length xs)) = ap length is in omega (arith, size)

pub left_shorter : (n l : ℕ) → 1 < n → l ≡ n - n / 2 → l < n
left_shorter n l two is = omega (arith, two, is)

pub right_shorter : (n r mid : ℕ) → 1 < n → mid ≡ n - n / 2 → r + mid ≡ n → r < n
right_shorter n r mid two is all = omega (arith, two, is, all)

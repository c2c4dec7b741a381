-- All digits but the last are those of the number without it.
use Rattle.std.proofs.Common.{◌≡◌, ℕ, ◌+◌, ◌*◌, ◌/◌, ◌%◌, ◌^◌, ◌<◌, ◌≤◌, suc, zero, Bool, true, false, List, [], ◌∷◌, ◌++◌, refl, sym, ap, ◌∙◌, arith, append_assoc, eq-eqb, ne_eqb}
use Rattle.std.proofs.Math.Nat.{pow-suc}
use Rattle.std.proofs.lemmas.Fmt.{decimal_step}
use Rattle.std.specs.Prelude.{if◌then◌else◌, ◌==◌}
use Rattle.std.specs.Fmt.{digit_glyph, digits, digits_onto, decimal}

abbrev onto : ℕ → ℕ → List ℕ → List ℕ
onto k n acc = digits_onto k 16 false n acc

abbrev glyph : ℕ → ℕ
glyph n = digit_glyph false (n % 16)

-- ---- what stands after the digits

append_one : (last : Bool) (k n g : ℕ) (acc : List ℕ) → ((xs : List ℕ) → onto k n xs ≡ onto k n [] ++ xs)
    → (if last then g ∷ acc else onto k n (g ∷ acc)) ≡ (if last then g ∷ [] else onto k n (g ∷ [])) ++ acc
append_one true k n g acc more = refl
append_one false k n g acc more = more (g ∷ acc) ∙ sym (ap (λ xs. xs ++ acc) (more (g ∷ [])) ∙ append_assoc (onto k n []) (g ∷ []) acc)

onto_append : (k n : ℕ) (acc : List ℕ) → onto k n acc ≡ onto k n [] ++ acc
onto_append zero n acc = refl
onto_append (suc k) n acc = append_one (n / 16 == 0) k (n / 16) (glyph n) acc (λ xs. onto_append k (n / 16) xs)

-- ---- more room than there are digits changes nothing

above : (m n : ℕ) → n < m * 16 → n / 16 < m
above m n h = omega arith

enough : (k n : ℕ) (acc : List ℕ) → n < 16 ^ suc k → onto (suc k) n acc ≡ onto (suc (suc k)) n acc
enough zero n acc below = rw (eq-eqb (n / 16) 0 (omega arith))
enough (suc k) n acc below =
    let fewer : n / 16 < 16 ^ suc k = above (16 ^ suc k) n (rw pow-suc at below) in
    ap (λ xs. if n / 16 == 0 then glyph n ∷ acc else xs) (enough k (n / 16) (glyph n ∷ acc) fewer)

-- ---- the last digit

first_step : (k n : ℕ) (acc : List ℕ) → 16 ≤ n → onto (suc k) n acc ≡ onto k (n / 16) (glyph n ∷ acc)
first_step k n acc from = ap (λ t. if t then glyph n ∷ acc else onto k (n / 16) (glyph n ∷ acc)) (ne_eqb (n / 16) 0 (λ e. omega arith))

hex_step : (n : ℕ) → 16 ≤ n → n < 2 ^ 32 → digits 16 false n ≡ digits 16 false (n / 16) ++ digit_glyph false (n % 16) ∷ []
unfolding digits
hex_step n from below =
    first_step 63 n [] from ∙ onto_append 63 (n / 16) (glyph n ∷ []) ∙ ap (λ xs. xs ++ glyph n ∷ []) (enough 62 (n / 16) [] (omega arith))

pub hex_grows : (to : List ℕ) (n : ℕ) → 16 ≤ n → n < 2 ^ 32 → (to ++ digits 16 false (n / 16)) ++ digit_glyph false (n % 16) ∷ [] ≡ to ++ digits 16 false n
hex_grows to n from below = append_assoc to (digits 16 false (n / 16)) (digit_glyph false (n % 16) ∷ []) ∙ ap (λ xs. to ++ xs) (sym (hex_step n from below))

pub decimal_grows : (to : List ℕ) (n : ℕ) → 10 ≤ n → n < 2 ^ 64 → (to ++ decimal (n / 10)) ++ (48 + n % 10) ∷ [] ≡ to ++ decimal n
decimal_grows to n from below = append_assoc to (decimal (n / 10)) ((48 + n % 10) ∷ []) ∙ ap (λ xs. to ++ xs) (sym (decimal_step n from below))

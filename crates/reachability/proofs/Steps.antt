-- Walks over a list, an item at a time.
use Rattle.std.proofs.Common.{◌≡◌, ℕ, zero, suc, ◌+◌, ◌<◌, List, [], ◌∷◌, length, drop, drop-cons, sym, ap, ◌∙◌, arith}
use Rattle.std.specs.Prelude.{slice_index_or as get_or}

-- what a walk g makes of the rest of a list, whose first item is the i-th, is what it makes of the rest behind that item, where h made `more` of the state so far
pub step : {X S : Type 0} (g : List X → S → S) (h : X → S → S) → ((x : X) (xs : List X) (s : S) → g (x ∷ xs) s ≡ g xs (h x s))
    → (xs : List X) (i : ℕ) (x : X) (s more whole : S) → i < length xs → x ≡ get_or xs i x → more ≡ h x s → g (drop i xs) s ≡ whole → g (drop (i + 1) xs) more ≡ whole
step g h begins xs i x s more whole low is made so_far =
    let next : suc i ≡ i + 1 = omega arith in
    let rest = drop (i + 1) xs in
    let front : drop i xs ≡ x ∷ rest = drop-cons xs i x low ∙ ap (λ y. y ∷ drop (suc i) xs) (sym is) ∙ ap (λ k. x ∷ drop k xs) next in
    ap (g rest) made ∙ sym (ap (λ l. g l s) front ∙ begins x rest s) ∙ so_far

-- an item is lower than its list
pub lower : {X : Type 0} (h : X → ℕ) (hs : List X → ℕ) → ((x : X) (xs : List X) → hs (x ∷ xs) ≡ h x + hs xs + 1)
    → (xs : List X) (k : ℕ) (x : X) → k < length xs → x ≡ get_or xs k x → h x < hs xs
lower h hs sums [] k x low is = absurd (omega (arith, low))
lower h hs sums (y ∷ ys) zero x low is = let same : h x ≡ h y = ap h is in omega (arith, same, sums y ys)
lower h hs sums (y ∷ ys) (suc k) x low is = let i : h x < hs ys = lower h hs sums ys k x (omega (arith, low)) is in omega (arith, i, sums y ys)

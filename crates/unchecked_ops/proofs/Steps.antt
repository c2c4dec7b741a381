-- Walks over a list, an item at a time.
use Rattle.std.proofs.Common.{◌≡◌, ℕ, zero, suc, ◌+◌, ◌<◌, List, [], ◌∷◌, ◌++◌, length, drop, drop-cons, sym, ap, ◌∙◌, append_assoc, arith}
use Rattle.std.specs.Prelude.{slice_index_or as get_or}

-- what a walk g makes of the rest of a list, whose first item is the i-th, begins with what h makes of that item
pub step : {X Y : Type 0} (g : ℕ → List X → List Y) (h : ℕ → X → List Y) → ((i : ℕ) (x : X) (xs : List X) → g i (x ∷ xs) ≡ h i x ++ g (i + 1) xs)
    → (xs : List X) (i : ℕ) (x : X) (out more whole : List Y) → i < length xs → x ≡ get_or xs i x → more ≡ out ++ h i x → out ++ g i (drop i xs) ≡ whole
    → more ++ g (i + 1) (drop (i + 1) xs) ≡ whole
step g h begins xs i x out more whole low is made so_far =
    let next : suc i ≡ i + 1 = omega arith in
    let rest = drop (i + 1) xs in
    let front : drop i xs ≡ x ∷ rest = drop-cons xs i x low ∙ ap (λ y. y ∷ drop (suc i) xs) (sym is) ∙ ap (λ k. x ∷ drop k xs) next in
    ap (λ o. o ++ g (i + 1) rest) made
    ∙ append_assoc out (h i x) (g (i + 1) rest)
    ∙ sym (ap (λ z. out ++ z) (ap (g i) front ∙ begins i x rest))
    ∙ so_far

-- an item is lower than its list
pub lower : {X : Type 0} (h : X → ℕ) (hs : List X → ℕ) → ((x : X) (xs : List X) → hs (x ∷ xs) ≡ h x + hs xs + 1)
    → (xs : List X) (k : ℕ) (x : X) → k < length xs → x ≡ get_or xs k x → h x < hs xs
lower h hs sums [] k x low is = absurd (omega (arith, low))
lower h hs sums (y ∷ ys) zero x low is = let same : h x ≡ h y = ap h is in omega (arith, same, sums y ys)
lower h hs sums (y ∷ ys) (suc k) x low is = let i : h x < hs ys = lower h hs sums ys k x (omega (arith, low)) is in omega (arith, i, sums y ys)

-- Walks over a list, an item at a time.
use Rattle.std.proofs.Common.{◌≡◌, ℕ, zero, suc, ◌+◌, ◌<◌, ◌≤◌, List, [], ◌∷◌, length, drop, drop-cons, refl, sym, ap, ◌∙◌, arith}
use Rattle.std.specs.Prelude.{slice_index_or as get_or}

-- what a walk g makes of the rest of a list, whose first item is the i-th, is what it makes of the rest behind that item, where h made `more` of the state so far
pub step : {X S : Type 0} (g : List X → S → S) (h : X → S → S) → ((x : X) (xs : List X) (s : S) → g (x ∷ xs) s ≡ g xs (h x s))
    → (xs : List X) (i : ℕ) (x : X) (s more whole : S) → i < length xs → x ≡ get_or xs i x → more ≡ h x s → g (drop i xs) s ≡ whole → g (drop (i + 1) xs) more ≡ whole
step g h begins xs i x s more whole low is made so_far =
    let next : suc i ≡ i + 1 = omega arith in
    let rest = drop (i + 1) xs in
    let front : drop i xs ≡ x ∷ rest = drop-cons xs i x low ∙ ap (λ y. y ∷ drop (suc i) xs) (sym is) ∙ ap (λ k. x ∷ drop k xs) next in
    ap (g rest) made ∙ sym (ap (λ l. g l s) front ∙ begins x rest s) ∙ so_far

dropped : {X : Type 0} (xs : List X) (i : ℕ) → length xs ≤ i → drop i xs ≡ []
dropped [] zero past = refl
dropped [] (suc i) past = refl
dropped (x ∷ xs) zero past = absurd (omega (arith, past))
dropped (x ∷ xs) (suc i) past = dropped xs i (omega (arith, past))

-- at the end of a list
pub finished : {X S : Type 0} (g : List X → S → S) → ((s : S) → g [] s ≡ s) → (xs : List X) (i : ℕ) (s whole : S) → length xs ≤ i → g (drop i xs) s ≡ whole → s ≡ whole
finished g none xs i s whole past is = sym (ap (λ l. g l s) (dropped xs i past) ∙ none s) ∙ is

-- an item is lower than its list
pub lower : {X : Type 0} (h : X → ℕ) (hs : List X → ℕ) → ((x : X) (xs : List X) → hs (x ∷ xs) ≡ h x + hs xs + 1)
    → (xs : List X) (k : ℕ) (x : X) → k < length xs → x ≡ get_or xs k x → h x < hs xs
lower h hs sums [] k x low is = absurd (omega (arith, low))
lower h hs sums (y ∷ ys) zero x low is = let same : h x ≡ h y = ap h is in omega (arith, same, sums y ys)
lower h hs sums (y ∷ ys) (suc k) x low is = let i : h x < hs ys = lower h hs sums ys k x (omega (arith, low)) is in omega (arith, i, sums y ys)

-- the same of a walk over two states, the first of which goes on by itself
pub step_both : {X B S R : Type 0} (g : List X → B → S → R) (h : X → B → B) (k : X → B → S → S) → ((x : X) (xs : List X) (b : B) (s : S) → g (x ∷ xs) b s ≡ g xs (h x b) (k x b s))
    → (xs : List X) (i : ℕ) (x : X) (b b' : B) (s s' : S) (whole : R) → i < length xs → x ≡ get_or xs i x → b' ≡ h x b → s' ≡ k x b s → g (drop i xs) b s ≡ whole
    → g (drop (i + 1) xs) b' s' ≡ whole
step_both g h k begins xs i x b b' s s' whole low is b_is s_is so_far =
    let next : suc i ≡ i + 1 = omega arith in
    let rest = drop (i + 1) xs in
    let front : drop i xs ≡ x ∷ rest = drop-cons xs i x low ∙ ap (λ y. y ∷ drop (suc i) xs) (sym is) ∙ ap (λ k. x ∷ drop k xs) next in
    ap (λ b. g rest b s') b_is ∙ ap (g rest (h x b)) s_is ∙ sym (ap (λ l. g l b s) front ∙ begins x rest b s) ∙ so_far

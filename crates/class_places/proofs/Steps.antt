-- Walks over a list, an item at a time.
use Rattle.std.proofs.Common.{◌≡◌, ℕ, zero, suc, ◌+◌, ◌<◌, List, [], ◌∷◌, length, drop, drop-cons, sym, ap, ◌∙◌, arith}
use Rattle.std.specs.Prelude.{slice_index_or as get_or}

-- the rest of a list, from its i-th item on
pub rest_at : {X : Type 0} (xs : List X) (i : ℕ) (x : X) → i < length xs → x ≡ get_or xs i x → drop i xs ≡ x ∷ drop (i + 1) xs
rest_at xs i x low is =
    let more : suc i ≡ i + 1 = omega arith in
    drop-cons xs i x low ∙ ap (λ y. y ∷ drop (suc i) xs) (sym is) ∙ ap (λ k. x ∷ drop k xs) more

-- what a walk g over the rest of a list makes of a state is what it makes of the state behind that list's first item, of which h makes it
pub step : {X S : Type 0} (g : List X → S → S) (h : X → S → S) → ((x : X) (xs : List X) (s : S) → g (x ∷ xs) s ≡ g xs (h x s))
    → (xs : List X) (i : ℕ) (x : X) (now next whole : S) → i < length xs → x ≡ get_or xs i x → next ≡ h x now → g (drop i xs) now ≡ whole
    → g (drop (i + 1) xs) next ≡ whole
step g h begins xs i x now next whole low is made so_far =
    let rest = drop (i + 1) xs in
    ap (g rest) made ∙ sym (ap (λ xs. g xs now) (rest_at xs i x low is) ∙ begins x rest now) ∙ so_far

-- an item is lower than its list
pub lower : {X : Type 0} (h : X → ℕ) (hs : List X → ℕ) → ((x : X) (xs : List X) → hs (x ∷ xs) ≡ h x + hs xs + 1)
    → (xs : List X) (k : ℕ) (x : X) → k < length xs → x ≡ get_or xs k x → h x < hs xs
lower h hs sums [] k x low is = absurd (omega (arith, low))
lower h hs sums (y ∷ ys) zero x low is = let same : h x ≡ h y = ap h is in omega (arith, same, sums y ys)
lower h hs sums (y ∷ ys) (suc k) x low is = let i : h x < hs ys = lower h hs sums ys k x (omega (arith, low)) is in omega (arith, i, sums y ys)

pub pair : {X Y Z : Type 0} (g : X → Y → Z) (x x' : X) (y y' : Y) → x ≡ x' → y ≡ y' → g x y ≡ g x' y'
pair g x x' y y' h k = ap (λ x. g x y) h ∙ ap (g x') k

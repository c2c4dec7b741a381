-- Places rise with offsets, so no two bytes have one place.
use Rattle.std.proofs.Common.{◌≡◌, ℕ, zero, suc, ◌+◌, ◌<◌, ◌≤◌, ◌⊎◌, inl, inr, Bool, true, false, cond, List, [], ◌∷◌, length, refl, sym, ap, arith}
use Rattle.edit_writer.specs.declared.places.Place.{Place}
use Rattle.edit_writer.specs.Places.{place_from, place_at}

-- not further up, and on the same line not further left
record Further (l c : ℕ) (p : Place) : Type 0 where
  down : (l < p.line) ⊎ ((l ≡ p.line) × (c ≤ p.col))

further : (l c : ℕ) (bs : List ℕ) (p : ℕ) → Further l c (place_from l c bs p)
further l c bs zero = record { down = inr (refl, omega arith) }
further l c [] (suc p) = record { down = inr (refl, omega arith) }
further l c (b ∷ bs) (suc p) = by_test _ (further (l + 1) 1 bs p) (further l (c + 1) bs p)
  where
    by_test : (t : Bool) → Further (l + 1) 1 (place_from (l + 1) 1 bs p) → Further l (c + 1) (place_from l (c + 1) bs p)
        → Further l c (cond t (place_from (l + 1) 1 bs p) (place_from l (c + 1) bs p))
    by_test true f g = elim f.down [
      | inl h ↦ record { down = inl (omega arith) }
      | inr h ↦ record { down = inl (omega arith) }
    ]
    by_test false f g = elim g.down [
      | inl h ↦ record { down = inl h }
      | inr h ↦ record { down = inr (h.0, omega arith) }
    ]

-- no later byte has the place at which the text begins
not_here : (l c : ℕ) (b : ℕ) (bs : List ℕ) (p : ℕ) → place_from l c (b ∷ bs) (suc p) ≡ record { line = l; col = c } → ⊥
not_here l c b bs p = by_test _
  where
    by_test : (t : Bool) → cond t (place_from (l + 1) 1 bs p) (place_from l (c + 1) bs p) ≡ record { line = l; col = c } → ⊥
    by_test true e =
        let n : (place_from (l + 1) 1 bs p).line ≡ l = ap (λ (x : Place). x.line) e in
        elim (further (l + 1) 1 bs p).down [ inl h ↦ absurd (omega arith) | inr h ↦ absurd (omega arith) ]
    by_test false e =
        let n : (place_from l (c + 1) bs p).line ≡ l = ap (λ (x : Place). x.line) e in
        let m : (place_from l (c + 1) bs p).col ≡ c = ap (λ (x : Place). x.col) e in
        elim (further l (c + 1) bs p).down [ inl h ↦ absurd (omega arith) | inr h ↦ absurd (omega arith) ]

one_from : (l c : ℕ) (bs : List ℕ) (p q : ℕ) → p < length bs → q < length bs → place_from l c bs p ≡ place_from l c bs q → p ≡ q
one_from l c [] p q lt lt' e = absurd (omega arith)
one_from l c (b ∷ bs) zero zero lt lt' e = refl
one_from l c (b ∷ bs) zero (suc q) lt lt' e = absurd (not_here l c b bs q (sym e))
one_from l c (b ∷ bs) (suc p) zero lt lt' e = absurd (not_here l c b bs p e)
one_from l c (b ∷ bs) (suc p) (suc q) lt lt' e =
    by_test _ (one_from (l + 1) 1 bs p q (omega arith) (omega arith)) (one_from l (c + 1) bs p q (omega arith) (omega arith)) e
  where
    by_test : (t : Bool) → (place_from (l + 1) 1 bs p ≡ place_from (l + 1) 1 bs q → p ≡ q) → (place_from l (c + 1) bs p ≡ place_from l (c + 1) bs q → p ≡ q)
        → cond t (place_from (l + 1) 1 bs p) (place_from l (c + 1) bs p) ≡ cond t (place_from (l + 1) 1 bs q) (place_from l (c + 1) bs q) → suc p ≡ suc q
    by_test true f g e = ap suc (f e)
    by_test false f g e = ap suc (g e)

pub one_place : (text : List ℕ) (p q : ℕ) → p < length text → q < length text → place_at text p ≡ place_at text q → p ≡ q
one_place text p q lt lt' e = one_from 1 1 text p q lt lt' e

-- the place behind a byte, and from there on
pub one_on : (l c b : ℕ) (bs : List ℕ) (p : ℕ) (at : Place) → at ≡ place_from l c (b ∷ bs) 1 → place_from l c (b ∷ bs) (suc p) ≡ place_from at.line at.col bs p
one_on l c b bs p at e = rw e (by_test _)
  where
    by_test : (t : Bool) → cond t (place_from (l + 1) 1 bs p) (place_from l (c + 1) bs p)
        ≡ place_from (cond t (place_from (l + 1) 1 bs zero) (place_from l (c + 1) bs zero)).line (cond t (place_from (l + 1) 1 bs zero) (place_from l (c + 1) bs zero)).col bs p
    by_test true = refl
    by_test false = refl

-- a step goes down or right by one
pub step_small : (l c b : ℕ) (bs : List ℕ) (at : Place) (n : ℕ) → at ≡ place_from l c (b ∷ bs) 1 → l ≤ n → c ≤ n → (at.line ≤ n + 1) × (at.col ≤ n + 1)
step_small l c b bs at n e low left = rw e (by_test _)
  where
    by_test : (t : Bool) → ((cond t (place_from (l + 1) 1 bs zero) (place_from l (c + 1) bs zero)).line ≤ n + 1) × ((cond t (place_from (l + 1) 1 bs zero) (place_from l (c + 1) bs zero)).col ≤ n + 1)
    by_test true = (omega arith, omega arith)
    by_test false = (omega arith, omega arith)

-- a place is at most as far down and as far right as the text has bytes
low_from : (l c n : ℕ) (bs : List ℕ) (p : ℕ) → l ≤ n → c ≤ n → 1 ≤ n → ((place_from l c bs p).line ≤ n + length bs) × ((place_from l c bs p).col ≤ n + length bs)
low_from l c n bs zero low left one = (omega arith, omega arith)
low_from l c n [] (suc p) low left one = (omega arith, omega arith)
low_from l c n (b ∷ bs) (suc p) low left one =
    by_test _ (low_from (l + 1) 1 (n + 1) bs p (omega arith) (omega arith) (omega arith)) (low_from l (c + 1) (n + 1) bs p (omega arith) (omega arith) (omega arith))
  where
    by_test : (t : Bool) → ((place_from (l + 1) 1 bs p).line ≤ n + 1 + length bs) × ((place_from (l + 1) 1 bs p).col ≤ n + 1 + length bs)
        → ((place_from l (c + 1) bs p).line ≤ n + 1 + length bs) × ((place_from l (c + 1) bs p).col ≤ n + 1 + length bs)
        → ((cond t (place_from (l + 1) 1 bs p) (place_from l (c + 1) bs p)).line ≤ n + suc (length bs))
        × ((cond t (place_from (l + 1) 1 bs p) (place_from l (c + 1) bs p)).col ≤ n + suc (length bs))
    by_test true f g = (omega (arith, f.0), omega (arith, f.1))
    by_test false f g = (omega (arith, g.0), omega (arith, g.1))

pub low_place : (text : List ℕ) (p : ℕ) → ((place_at text p).line ≤ 1 + length text) × ((place_at text p).col ≤ 1 + length text)
low_place text p = low_from 1 1 1 text p (omega arith) (omega arith) (omega arith)

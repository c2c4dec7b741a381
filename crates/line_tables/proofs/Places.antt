-- Places of a text by places of what is behind one of its bytes.
use Rattle.std.proofs.Common.{◌≡◌, ℕ, zero, suc, ◌+◌, ◌-◌, ◌<◌, ◌≤◌, ◌⊎◌, inl, inr, Bool, true, false, cond, List, [], ◌∷◌, length, take, drop, refl, sym, ap, subst, ◌∙◌, arith}
use Rattle.std.proofs.lemmas.List.{take_rest}
use Rattle.edit_writer.specs.declared.places.Place.{Place}
use Rattle.edit_writer.specs.Places.{place_from, place_at}
use Rattle.edit_writer.proofs.Lines.{low_place}

-- the place of a later byte is its place in the text behind an earlier one, begun at the earlier one's
split : (l c : ℕ) (bs : List ℕ) (p q n : ℕ) → n ≡ p + q → place_from l c bs n ≡ place_from (place_from l c bs p).line (place_from l c bs p).col (drop p bs) q
split l c bs zero q n e = ap (place_from l c bs) (let same : n ≡ q = omega arith in same)
split l c [] (suc p) q zero e = absurd (omega arith)
split l c [] (suc p) zero (suc n) e = refl
split l c [] (suc p) (suc q) (suc n) e = refl
split l c (b ∷ bs) (suc p) q zero e = absurd (omega arith)
split l c (b ∷ bs) (suc p) q (suc n) e = by_test _ (split (l + 1) 1 bs p q n (omega arith)) (split l (c + 1) bs p q n (omega arith))
  where
    by_test : (t : Bool)
        → place_from (l + 1) 1 bs n ≡ place_from (place_from (l + 1) 1 bs p).line (place_from (l + 1) 1 bs p).col (drop p bs) q
        → place_from l (c + 1) bs n ≡ place_from (place_from l (c + 1) bs p).line (place_from l (c + 1) bs p).col (drop p bs) q
        → cond t (place_from (l + 1) 1 bs n) (place_from l (c + 1) bs n)
        ≡ place_from (cond t (place_from (l + 1) 1 bs p) (place_from l (c + 1) bs p)).line (cond t (place_from (l + 1) 1 bs p) (place_from l (c + 1) bs p)).col (drop p bs) q
    by_test true f g = f
    by_test false f g = g

-- places of one byte in a text that is begun at two places: on the first line it is moved by lines and columns, below it by lines alone
record Moved (l c m d : ℕ) (p q : Place) : Type 0 where
  moved : ((q.line ≡ m) × (p.line ≡ l) × (d ≤ q.col) × (p.col + d ≡ q.col + c)) ⊎ ((m < q.line) × (p.line + m ≡ q.line + l) × (p.col ≡ q.col))

moved : (l c m d : ℕ) (bs : List ℕ) (n : ℕ) → Moved l c m d (place_from l c bs n) (place_from m d bs n)
moved l c m d bs zero = record { moved = inl (refl, refl, omega arith, omega arith) }
moved l c m d [] (suc n) = record { moved = inl (refl, refl, omega arith, omega arith) }
moved l c m d (b ∷ bs) (suc n) = by_test _ (moved (l + 1) 1 (m + 1) 1 bs n) (moved l (c + 1) m (d + 1) bs n)
  where
    by_test : (t : Bool) → Moved (l + 1) 1 (m + 1) 1 (place_from (l + 1) 1 bs n) (place_from (m + 1) 1 bs n)
        → Moved l (c + 1) m (d + 1) (place_from l (c + 1) bs n) (place_from m (d + 1) bs n)
        → Moved l c m d (cond t (place_from (l + 1) 1 bs n) (place_from l (c + 1) bs n)) (cond t (place_from (m + 1) 1 bs n) (place_from m (d + 1) bs n))
    by_test true f g = elim f.moved [
      | inl h ↦ record { moved = inr (omega arith, omega arith, omega arith) }
      | inr h ↦ record { moved = inr (omega arith, omega arith, omega arith) }
    ]
    by_test false f g = elim g.moved [
      | inl h ↦ record { moved = inl (h.0, h.1, omega arith, omega arith) }
      | inr h ↦ record { moved = inr h }
    ]

-- a place is its line and its column
same_place : (l c : ℕ) (p : Place) → l ≡ p.line → c ≡ p.col → record { line = l; col = c } ≡ p
same_place l c p e f = rw (e, f)

-- how the place `there` of a later byte follows from the place `at` of an earlier one and from `inner`, its place in the text behind that one, with no sum above n
pub record Behind (n : ℕ) (at inner there : Place) : Type 0 where
  pub line : (1 ≤ inner.line) × (at.line + (inner.line - 1) ≤ n)
  pub col : inner.line ≡ 1 → (1 ≤ inner.col) × (at.col + (inner.col - 1) ≤ n)
  pub beside : inner.line ≡ 1 → record { line = at.line + (inner.line - 1); col = at.col + (inner.col - 1) } ≡ there
  pub below : (inner.line ≡ 1 → ⊥) → record { line = at.line + (inner.line - 1); col = inner.col } ≡ there

of_moved : (n : ℕ) (at inner there : Place) → (there.line ≤ n) × (there.col ≤ n) → Moved at.line at.col 1 1 there inner → Behind n at inner there
of_moved n at inner there low m = elim m.moved [
  | inl h ↦ record {
    line = (omega arith, omega arith);
    col = λ one. (omega arith, omega arith);
    beside = λ one. same_place (at.line + (inner.line - 1)) (at.col + (inner.col - 1)) there (omega arith) (omega arith);
    below = λ more. absurd (more h.0);
  }
  | inr h ↦ record {
    line = (omega arith, omega arith);
    col = λ one. absurd (omega arith);
    beside = λ one. absurd (omega arith);
    below = λ more. same_place (at.line + (inner.line - 1)) inner.col there (omega arith) (omega arith);
  }
]

pub behind : (text : List ℕ) (base more : ℕ) (at inner : Place) → at ≡ place_at text base → inner ≡ place_at (take (length text - base) (drop base text)) more
    → Behind (1 + length text) at inner (place_at text (base + more))
behind text base more at inner is inner_is =
    let rest = drop base text in
    let here = place_from at.line at.col rest more in
    let there : here ≡ place_at text (base + more) = ap (λ (p : Place). place_from p.line p.col rest more) is ∙ sym (split 1 1 text base more (base + more) refl) in
    let within = inner_is ∙ ap (λ bs. place_at bs more) (take_rest text base) in
    let m = subst (Moved at.line at.col 1 1 here) (sym within) (moved at.line at.col 1 1 rest more) in
    of_moved (1 + length text) at inner (place_at text (base + more)) (low_place text (base + more)) (subst (λ p. Moved at.line at.col 1 1 p inner) there m)

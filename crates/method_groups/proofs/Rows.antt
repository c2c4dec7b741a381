-- Rows, and the labels of methods.
use Rattle.std.proofs.Common.{◌≡◌, ℕ, ◌+◌, ◌<◌, List, [], ◌∷◌, ◌++◌, Some, ◌⊎◌, inl, inr, ◌↔◌, sym, ap, ◌∙◌, subst, length, arith}
use Rattle.std.specs.Prelude.{slice_get, slice_set}
use Rattle.std.proofs.lemmas.List.{length_push}
use Rattle.std.proofs.lemmas.Option.{slice_get_within}
use Rattle.class_world.proofs.Ends.{at_last, at_first, first_or_last, first_or_end}
use Rattle.class_world.proofs.Words.{set_here, set_there, same_or_other}
use Rattle.method_groups.specs.declared.overloads.Overloads.{Overloads}
use Rattle.method_groups.specs.declared.labels.Row.{Row}
use Rattle.method_groups.specs.Labels.{StandsFor, last, rest, KeepsRows}
use Rattle.method_groups.proofs.Firsts.{there_is}

-- each row but that of 0 leads to a lower label
abbrev pub Falls : List Row → Type 0
Falls rows = (n : ℕ) (row : Row) → slice_get rows n ≡ Some row → 0 < n → row.rest < n

abbrev pub AreWithin : List ℕ → List Row → Type 0
AreWithin labels rows = (m n : ℕ) → slice_get labels m ≡ Some n → n < length rows

abbrev pub Labelled : List ℕ → List Row → ℕ → Overloads → Type 0
Labelled labels rows m x = (n : ℕ) × (slice_get labels m ≡ Some n) × StandsFor rows n x

pub one_row : (rows : List Row) (n : ℕ) (a b : Row) → slice_get rows n ≡ Some a → slice_get rows n ≡ Some b → a ≡ b
one_row rows n a b at is = let both : Some a ≡ Some b = sym at ∙ is in cc both

pub stands_kept : (old new : List Row) (n : ℕ) (x : Overloads) → KeepsRows old new → StandsFor old n x → StandsFor new n x
stands_kept old new n x kept (last lt at is) = last lt (kept n _ at) is
stands_kept old new n x kept (rest {row = row} lt at more) = rest lt (kept n row at) (stands_kept old new row.rest x kept more)

pub stands_back : (old new : List Row) (n : ℕ) (x : Overloads) → KeepsRows old new → Falls old → n < length old → StandsFor new n x → StandsFor old n x
stands_back old new n x kept falls low (last {row = row} lt at is) =
    let there = there_is old n low in
    let same = one_row new n there.0 row (kept n there.0 there.1) at in
    last lt (there.1 ∙ ap Some same) is
stands_back old new n x kept falls low (rest {row = row} lt at more) =
    let there = there_is old n low in
    let same = one_row new n there.0 row (kept n there.0 there.1) at in
    let here : slice_get old n ≡ Some row = there.1 ∙ ap Some same in
    let down = falls n row here lt in
    rest lt here (stands_back old new row.rest x kept falls (omega (arith, down, low)) more)

-- what a label's row says
pub stands_cases : (rows : List Row) (n : ℕ) (row : Row) (x : Overloads) → slice_get rows n ≡ Some row → StandsFor rows n x → (x ≡ row.last) ⊎ StandsFor rows row.rest x
stands_cases rows n row x here (last {row = r} lt at is) = inl (is ∙ ap (λ (y : Row). y.last) (one_row rows n r row at here))
stands_cases rows n row x here (rest {row = r} lt at more) = inr (subst (λ (y : Row). StandsFor rows y.rest x) (one_row rows n r row at here) more)

pub stands_above : (rows : List Row) (n : ℕ) (x : Overloads) → StandsFor rows n x → 0 < n
stands_above rows n x (last lt at is) = lt
stands_above rows n x (rest lt at more) = lt

-- ---- a row that is pushed

module _ (rows new : List Row) (row : Row) (made : new ≡ rows ++ row ∷ []) where
  pub push_keeps : KeepsRows rows new
  push_keeps n r at = ap (λ l. slice_get l n) made ∙ at_first rows row r n at

  pub push_last : slice_get new (length rows) ≡ Some row
  push_last = ap (λ l. slice_get l (length rows)) made ∙ at_last rows row

  pub push_only : (n : ℕ) (r : Row) → slice_get new n ≡ Some r → (slice_get rows n ≡ Some r) ⊎ (r ≡ row)
  push_only n r at = first_or_last rows row r n (sym (ap (λ l. slice_get l n) made) ∙ at)

  pub push_falls : Falls rows → row.rest < length rows → Falls new
  push_falls falls low n r at lt = elim (first_or_end rows row r n (sym (ap (λ l. slice_get l n) made) ∙ at)) [
    | inl old ↦ falls n r old lt
    | inr end ↦ let e : r.rest ≡ row.rest = ap (λ (y : Row). y.rest) end.0 in omega (arith, low, e, end.1)
  ]

  pub push_within : (labels : List ℕ) → AreWithin labels rows → AreWithin labels new
  push_within labels within m n at = let lt = within m n at in let size : length new ≡ length rows + 1 = ap length made ∙ length_push rows row in omega (arith, lt, size)

-- ---- a method's label that is set

module _ (rows new : List Row) (labels : List ℕ) (m old label : ℕ) (x : Overloads) (falls : Falls rows) (within : AreWithin labels rows) (kept : KeepsRows rows new)
    (at : slice_get labels m ≡ Some old) (above : 0 < label) (its : Row) (row : slice_get new label ≡ Some its) (rests : its.rest ≡ old) (lasts : its.last ≡ x) where
  there : (k : ℕ) → (m ≡ k → ⊥) → slice_get (slice_set labels m label) k ≡ slice_get labels k
  there k other = set_there labels m k label other

  here : slice_get (slice_set labels m label) m ≡ Some label
  here = set_here labels m label (slice_get_within labels m old at)

  is_here : (n k : ℕ) → m ≡ k → slice_get (slice_set labels m label) k ≡ Some n → n ≡ label
  is_here n k same is = let both : Some n ≡ Some label = sym is ∙ ap (slice_get (slice_set labels m label)) (sym same) ∙ here in cc both

  was_here : (n k : ℕ) → m ≡ k → slice_get labels k ≡ Some n → n ≡ old
  was_here n k same is = let both : Some n ≡ Some old = sym is ∙ ap (slice_get labels) (sym same) ∙ at in cc both

  pub set_within : AreWithin labels new → AreWithin (slice_set labels m label) new
  set_within fine k n is = elim (same_or_other m k) [
    | inl same ↦ let e = is_here n k same is in let lt = slice_get_within new label its row in omega (arith, e, lt)
    | inr other ↦ fine k n (sym (there k other) ∙ is)
  ]

  pub label_has : (k : ℕ) (y : Overloads) → Labelled (slice_set labels m label) new k y ↔ (Labelled labels rows k y ⊎ ((k ≡ m) × (y ≡ x)))
  label_has k y = elim (same_or_other m k) [
    | inl same ↦ (
      λ h.
          let stands : StandsFor new label y = subst (λ n. StandsFor new n y) (is_here h.0 k same h.1) h.2 in
          elim (stands_cases new label its y row stands) [
            | inl is ↦ inr (sym same, is ∙ lasts)
            | inr more ↦ inl (old, ap (slice_get labels) (sym same) ∙ at, stands_back rows new old y kept falls (within m old at) (subst (λ n. StandsFor new n y) rests more))
          ],
      λ h. (
        label,
        ap (slice_get (slice_set labels m label)) (sym same) ∙ here,
        elim h [
          | inl was ↦ rest above row (subst (λ n. StandsFor new n y) (sym rests) (stands_kept rows new old y kept (subst (λ n. StandsFor rows n y) (was_here was.0 k same was.1) was.2)))
          | inr is ↦ last above row (is.1 ∙ sym lasts)
        ],
      ),
    )
    | inr other ↦ (
      λ h. let is = sym (there k other) ∙ h.1 in inl (h.0, is, stands_back rows new h.0 y kept falls (within k h.0 is) h.2),
      λ h. elim h [
        | inl was ↦ (was.0, there k other ∙ was.1, stands_kept rows new was.0 y kept was.2)
        | inr is ↦ absurd (other (sym is.0))
      ],
    )
  ]

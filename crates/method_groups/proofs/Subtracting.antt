-- Ascending numbers without those that are among others.
use Rattle.std.proofs.Common.{◌≡◌, ℕ, ◌+◌, ◌<◌, ◌≤◌, List, [], ◌∷◌, ◌++◌, Some, ◌⊎◌, inl, inr, sym, ap, ◌∙◌, subst, get_or, arith}
use Rattle.std.specs.Prelude.{slice_get}
use Rattle.std.specs.List.{Contains}
use Rattle.std.specs.List.Sorted.{IsStrictlyIncreasing}
use Rattle.std.proofs.lemmas.List.Elements.{Contains-append_left, Contains-push, Contains-push_cases}
use Rattle.std.proofs.lemmas.List.Kept.{AllPairs-from_increasing}
use Rattle.std.proofs.lemmas.Option.{slice_get_within, get_or_from_slice_get}
use Rattle.method_groups.proofs.Firsts.{Among, among_last, among_more, among_cases, among_none, contains_at, low_or_high, low_or_last, there_is}

-- of ascending numbers a later one is greater
later_greater : (xs : List ℕ) (i j x y : ℕ) → IsStrictlyIncreasing xs → slice_get xs i ≡ Some x → slice_get xs j ≡ Some y → i < j → x < y
later_greater xs i j x y ascends at_x at_y lt =
    let low : get_or xs i 0 < get_or xs j 0 = AllPairs-from_increasing xs ascends i j 0 lt (slice_get_within xs j y at_y) in
    let first : get_or xs i 0 ≡ x = get_or_from_slice_get xs i x 0 at_x in
    let second : get_or xs j 0 ≡ y = get_or_from_slice_get xs j y 0 at_y in
    omega (arith, low, first, second)

-- the numbers left are the first i, but those that are among the others
pub record AreLeft (numbers others left : List ℕ) (i : ℕ) : Type 0 where
  pub only : (k : ℕ) → Contains left k → Among numbers i k × (Contains others k → ⊥)
  pub all : (k : ℕ) → Among numbers i k → Contains left k ⊎ Contains others k

pub left_none : (numbers others left : List ℕ) → left ≡ [] → AreLeft numbers others left 0
left_none numbers others left none = record {
  only = λ k has. let gone = subst (λ l. Contains l k) none has in let never = gone.1 in absurd (omega (arith, never));
  all = λ k among. absurd (among_none numbers k among);
}

module _ (numbers others left : List ℕ) (i m : ℕ) (at : slice_get numbers i ≡ Some m) (h : AreLeft numbers others left i) where
  pub left_pushed : (new : List ℕ) → new ≡ left ++ m ∷ [] → (Contains others m → ⊥) → AreLeft numbers others new (i + 1)
  left_pushed new made apart = record {
    only = λ k has. elim (Contains-push_cases left m k (subst (λ l. Contains l k) made has)) [
      | inl old ↦ let was = h.only k old in (among_more numbers i k was.0, was.1)
      | inr same ↦ (subst (Among numbers (i + 1)) same (among_last numbers i m at), λ there. apart (subst (Contains others) (sym same) there))
    ];
    all = λ k among. elim (among_cases numbers i k m at among) [
      | inl early ↦ elim (h.all k early) [ inl has ↦ inl (subst (λ l. Contains l k) (sym made) (Contains-append_left left (m ∷ []) k has)) | inr there ↦ inr there ]
      | inr last ↦ inl (subst (λ l. Contains l k) (sym made) (subst (Contains (left ++ m ∷ [])) (sym last) (Contains-push left m)))
    ];
  }

  pub left_dropped : Contains others m → AreLeft numbers others left (i + 1)
  left_dropped there = record {
    only = λ k has. let was = h.only k has in (among_more numbers i k was.0, was.1);
    all = λ k among. elim (among_cases numbers i k m at among) [
      | inl early ↦ h.all k early
      | inr last ↦ inr (subst (Contains others) (sym last) there)
    ];
  }

-- the others below the place are below all numbers from the i-th on
abbrev pub ArePassed : List ℕ → List ℕ → ℕ → ℕ → Type 0
ArePassed numbers others i at = (j k h m : ℕ) → j < at → slice_get others j ≡ Some k → i ≤ h → slice_get numbers h ≡ Some m → k < m

pub none_passed : (numbers others : List ℕ) → ArePassed numbers others 0 0
none_passed numbers others j k h m lt here low there = absurd (omega (arith, lt))

module _ (numbers others : List ℕ) (i at next m : ℕ) (ascend : IsStrictlyIncreasing numbers) (here : slice_get numbers i ≡ Some m) (passed : ArePassed numbers others i at)
    (below : (j k : ℕ) → j < next → slice_get others j ≡ Some k → (j < at) ⊎ (k < m)) where
  low : (j k : ℕ) → j < next → slice_get others j ≡ Some k → k < m
  low j k lt is = elim (below j k lt is) [
    | inl early ↦ passed j k i m early is (omega arith) here
    | inr under ↦ under
  ]

  pub next_passed : ArePassed numbers others (i + 1) next
  next_passed j k h q lt is more there =
      let first = low j k lt is in
      let second : m < q = later_greater numbers i h m q ascend here there (omega (arith, more)) in
      omega (arith, first, second)

  -- what is not at the place is nowhere
  pub not_among : IsStrictlyIncreasing others → ((k : ℕ) → slice_get others next ≡ Some k → m ≤ k) → (slice_get others next ≡ Some m → ⊥) → Contains others m → ⊥
  not_among ascends stop missing has = by (contains_at others m has)
    where
      by : (j : ℕ) × (slice_get others j ≡ Some m) → ⊥
      by found = elim (low_or_high found.0 next) [
        | inl lt ↦ let under = low found.0 m lt found.1 in omega (arith, under)
        | inr high ↦ elim (low_or_last next found.0 (omega (arith, high))) [
          | inl lt ↦
              let within = slice_get_within others found.0 m found.1 in
              let its = there_is others next (omega (arith, lt, within)) in
              let above = stop its.0 its.1 in
              let under = later_greater others next found.0 its.0 m ascends its.1 found.1 lt in
              omega (arith, above, under)
          | inr same ↦ missing (ap (slice_get others) same ∙ found.1)
        ]
      ]

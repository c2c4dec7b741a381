-- A table of a list for each number, one number added to one of them.
use Rattle.std.proofs.Common.{◌≡◌, ℕ, ◌+◌, ◌<◌, ◌≤◌, List, [], ◌∷◌, ◌++◌, Some, ◌⊎◌, inl, inr, ◌↔◌, sym, ap, ◌∙◌, subst, length, take, get_or, arith}
use Rattle.std.specs.Prelude.{slice_get, slice_set, Contains}
use Rattle.std.proofs.lemmas.Option.{slice_get_within}
use Rattle.std.proofs.lemmas.List.{take_more}
use Rattle.std.proofs.lemmas.List.Elements.{Contains-append_left, Contains-append_right, Contains-push_cases}
use Rattle.type_reach.specs.Reach.{IsEdge}
use Rattle.type_reach.specs.Sources.{HasTarget}
use Rattle.type_reach.proofs.Lists.{same_or_other, set_here, set_there}

-- one more item of those before a place
pub taken_more : (xs : List ℕ) (i x b : ℕ) → i < length xs → get_or xs i 0 ≡ x → Contains (take (i + 1) xs) b → Contains (take i xs) b ⊎ (x ≡ b)
taken_more xs i x b lt is has = elim (Contains-push_cases (take i xs) (get_or xs i 0) b (subst (λ ys. Contains ys b) (take_more xs i 0 lt) has)) [
  | inl old ↦ inl old
  | inr same ↦ inr (sym is ∙ same)
]

pub taken_still : (xs : List ℕ) (i b : ℕ) → i < length xs → Contains (take i xs) b → Contains (take (i + 1) xs) b
taken_still xs i b lt has = subst (λ ys. Contains ys b) (sym (take_more xs i 0 lt)) (Contains-append_left (take i xs) (get_or xs i 0 ∷ []) b has)

pub taken_here : (xs : List ℕ) (i x : ℕ) → i < length xs → get_or xs i 0 ≡ x → Contains (take (i + 1) xs) x
taken_here xs i x lt is = subst (λ ys. Contains ys x) (sym (take_more xs i 0 lt)) (Contains-append_right (take i xs) (get_or xs i 0 ∷ []) x (0, omega arith, is))

-- the sources after one more target
abbrev pub Added : (old now : List (List ℕ)) → (node : ℕ) → List ℕ → Type 0
Added old now node targets = (a b : ℕ) → HasTarget now b a ↔ (HasTarget old b a ⊎ ((a ≡ node) × Contains targets b × (b < length old)))

module _ (old now : List (List ℕ)) (node : ℕ) (targets : List ℕ) (i t : ℕ) (lt : i < length targets) (is : get_or targets i 0 ≡ t) (size : length now ≡ length old)
    (so_far : Added old now node (take i targets)) where
  pub added_here : (row : List ℕ) → slice_get now t ≡ Some row → Added old (slice_set now t (row ++ node ∷ [])) node (take (i + 1) targets)
  added_here row row_is a b = (to, from)
    where
      within : t < length now
      within = slice_get_within now t row row_is

      old_still : HasTarget now b a → HasTarget (slice_set now t (row ++ node ∷ [])) b a
      old_still h = elim (same_or_other t b) [
        | inl same ↦
            let row_same : h.0 ≡ row = cc (h.1, ap (slice_get now) same, row_is) in (
              row ++ node ∷ [],
              ap (slice_get (slice_set now t (row ++ node ∷ []))) (sym same) ∙ set_here now t (row ++ node ∷ []) within,
              Contains-append_left row (node ∷ []) a (subst (λ r. Contains r a) row_same h.2),
            )
        | inr other ↦ (h.0, set_there now t b (row ++ node ∷ []) other ∙ h.1, h.2)
      ]

      to : HasTarget (slice_set now t (row ++ node ∷ [])) b a → HasTarget old b a ⊎ ((a ≡ node) × Contains (take (i + 1) targets) b × (b < length old))
      to h = elim (same_or_other t b) [
        | inl same ↦
            let row_same : h.0 ≡ row ++ node ∷ [] = cc (sym h.1 ∙ ap (slice_get (slice_set now t (row ++ node ∷ []))) (sym same) ∙ set_here now t (row ++ node ∷ []) within) in
            elim (Contains-push_cases row node a (subst (λ r. Contains r a) row_same h.2)) [
              | inl was ↦ widen ((so_far a b).0 (row, ap (slice_get now) (sym same) ∙ row_is, was))
              | inr new ↦ inr (sym new, subst (λ x. Contains (take (i + 1) targets) x) same (taken_here targets i t lt is), omega (arith, within, size, same))
            ]
        | inr other ↦ widen ((so_far a b).0 (h.0, sym (set_there now t b (row ++ node ∷ []) other) ∙ h.1, h.2))
      ]
        where
          widen : HasTarget old b a ⊎ ((a ≡ node) × Contains (take i targets) b × (b < length old)) → HasTarget old b a ⊎ ((a ≡ node) × Contains (take (i + 1) targets) b × (b < length old))
          widen (inl h) = inl h
          widen (inr h) = inr (h.0, taken_still targets i b lt h.1, h.2)

      from : HasTarget old b a ⊎ ((a ≡ node) × Contains (take (i + 1) targets) b × (b < length old)) → HasTarget (slice_set now t (row ++ node ∷ [])) b a
      from (inl h) = old_still ((so_far a b).1 (inl h))
      from (inr h) = elim (taken_more targets i t b lt is h.1) [
        | inl before ↦ old_still ((so_far a b).1 (inr (h.0, before, h.2)))
        | inr same ↦ (
          row ++ node ∷ [],
          ap (slice_get (slice_set now t (row ++ node ∷ []))) (sym same) ∙ set_here now t (row ++ node ∷ []) within,
          Contains-append_right row (node ∷ []) a (0, omega arith, sym h.0),
        )
      ]

  -- a target that is no node
  pub added_nowhere : length now ≤ t → Added old now node (take (i + 1) targets)
  added_nowhere past a b = (
    λ h. elim ((so_far a b).0 h) [ inl was ↦ inl was | inr new ↦ inr (new.0, taken_still targets i b lt new.1, new.2) ],
    λ h. elim h [
      | inl was ↦ (so_far a b).1 (inl was)
      | inr new ↦ elim (taken_more targets i t b lt is new.1) [
        | inl before ↦ (so_far a b).1 (inr (new.0, before, new.2))
        | inr same ↦ absurd (let short = new.2 in omega (arith, past, same, short, size))
      ]
    ],
  )

-- ---- the sources of the edges from the first nodes

abbrev pub From : (g now : List (List ℕ)) → ℕ → Type 0
From g now i = (a b : ℕ) → HasTarget now b a ↔ ((a < i) × IsEdge g a b)

pub from_none : (g : List (List ℕ)) (now : List (List ℕ)) → ((b a : ℕ) → HasTarget now b a → ⊥) → From g now 0
from_none g now none a b = (λ h. absurd (none b a h), λ h. absurd (omega (arith, h.0)))

pub from_more : (g old now : List (List ℕ)) (i : ℕ) (row : List ℕ) → length old ≡ length g → slice_get g i ≡ Some row → From g old i → Added old now i row → From g now (i + 1)
from_more g old now i row size row_is before added a b = (
  λ h. elim ((added a b).0 h) [
    | inl was ↦ let e = (before a b).0 was in (omega (arith, e.0), e.1)
    | inr new ↦ (omega (arith, new.0), (row, ap (slice_get g) new.0 ∙ row_is, new.1, (let lt = new.2 in omega (arith, lt, size))))
  ],
  λ h. elim (low_or_last h.0) [
    | inl lt ↦ (added a b).1 (inl ((before a b).1 (lt, h.1)))
    | inr same ↦
        let row_same : h.1.0 ≡ row = cc (sym h.1.1 ∙ ap (slice_get g) same ∙ row_is) in
        (added a b).1 (inr (same, subst (λ r. Contains r b) row_same h.1.2, (let lt = h.1.3 in omega (arith, lt, size))))
  ],
)
  where
    low_or_last : a < i + 1 → (a < i) ⊎ (a ≡ i)
    low_or_last lt = grind (arith, lt)

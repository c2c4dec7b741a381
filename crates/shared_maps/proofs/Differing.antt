-- The keys that two trees have different values for.
use Rattle.std.proofs.Common.{◌≡◌, ℕ, suc, ◌+◌, ◌-◌, ◌^◌, ◌<◌, ◌≤◌, List, [], ◌∷◌, ◌++◌, Option, None, Some, ◌⊎◌, inl, inr, ◌↔◌, refl, sym, ap, ◌∙◌, subst, arith}
use Rattle.std.specs.Prelude.{slice_get, Contains}
use Rattle.std.proofs.lemmas.Bool.{cases_lt}
use Rattle.std.proofs.lemmas.List.{append-nil, append_assoc}
use Rattle.std.proofs.lemmas.List.Elements.{Contains-append_left, Contains-append_right, Contains-append_cases, Contains-push, Contains-push_cases}
use Rattle.shared_maps.specs.declared.trees.Node.{Node}
use Rattle.shared_maps.specs.Trees.{Adds, Differ, DiffersIn, HasHalves, IsArena, value_at, value_of}
use Rattle.shared_maps.proofs.Nodes.{IsBare}
use Rattle.shared_maps.proofs.Walks.{twice, value_bare, value_high, value_low}
use Rattle.shared_maps.proofs.Listed.{pairs_append}

-- ---- keys behind others

pub adds_none : (keys : List ℕ) (P : ℕ → Type 0) → ((k : ℕ) → P k → ⊥) → Adds keys keys P
adds_none keys P none = record {
  more = [];
  added = sym (append-nil keys);
  each = λ k. (λ h. absurd (omega (arith, h.1)), λ h. absurd (none k h));
  ascending = λ i j d lt within. absurd (omega (arith, within));
}

pub adds_one : (keys : List ℕ) (key : ℕ) (P : ℕ → Type 0) → P key → ((k : ℕ) → P k → k ≡ key) → Adds keys (keys ++ key ∷ []) P
adds_one keys key P is only = record {
  more = key ∷ [];
  added = refl;
  each = λ k. (
    λ h. elim (Contains-push_cases [] key k h) [ inl none ↦ absurd (omega (arith, none.1)) | inr same ↦ subst P same is ],
    λ h. subst (Contains (key ∷ [])) (sym (only k h)) (Contains-push [] key),
  );
  ascending = λ i j d lt within. absurd (omega (arith, lt, within));
}

pub adds_both : (a b c : List ℕ) (P Q R : ℕ → Type 0) → Adds a b P → Adds b c Q → ((k : ℕ) → R k ↔ (P k ⊎ Q k)) → ((x y : ℕ) → P x → Q y → x < y) → Adds a c R
adds_both a b c P Q R p q says across = record {
  more = p.more ++ q.more;
  added = q.added ∙ ap (λ xs. xs ++ q.more) p.added ∙ append_assoc a p.more q.more;
  each = λ k. (
    λ h. (says k).1 (elim (Contains-append_cases p.more q.more k h) [ inl x ↦ inl ((p.each k).0 x) | inr x ↦ inr ((q.each k).0 x) ]),
    λ h. elim ((says k).0 h) [ inl x ↦ Contains-append_left p.more q.more k ((p.each k).1 x) | inr x ↦ Contains-append_right p.more q.more k ((q.each k).1 x) ],
  );
  ascending = pairs_append (λ x y. x < y) p.more q.more p.ascending q.ascending (λ x y left right. across x y ((p.each x).0 left) ((q.each y).0 right));
}

-- ---- values that differ

pub differ_same : (a b c d : Option ℕ) → a ≡ b → c ≡ d → Differ a c → Differ b d
differ_same a b c d p q h = (h.0, h.1, sym p ∙ h.2, sym q ∙ h.3, h.4)

differ_never : (o : Option ℕ) → Differ o o → ⊥
differ_never o h = let both : Some h.0 ≡ Some h.1 = sym h.2 ∙ h.3 in h.4 (let same : h.0 ≡ h.1 = cc both in same)

pub none_never : (o : Option ℕ) (x : ℕ) → o ≡ None → o ≡ Some x → ⊥
none_never o x none some = let both : None ≡ Some x = sym none ∙ some in absurd (cc both)

-- ---- keys of trees

module _ (nodes : List Node) (arena : IsArena nodes) (keys levels left right from k : ℕ) where
  pub same_never : left ≡ right → DiffersIn nodes keys levels left right from k → ⊥
  same_never same h =
      differ_never (value_at nodes levels left (k - from))
      (differ_same (value_at nodes levels left (k - from)) (value_at nodes levels left (k - from)) (value_at nodes levels right (k - from)) (value_at nodes levels left (k - from)) refl
      (ap (λ n. value_at nodes levels n (k - from)) (sym same)) h.values)

  pub left_never : IsBare nodes left → DiffersIn nodes keys levels left right from k → ⊥
  left_never bare h = none_never (value_at nodes levels left (k - from)) h.values.0 (value_bare nodes arena levels left (k - from) bare) h.values.2

  pub right_never : IsBare nodes right → DiffersIn nodes keys levels left right from k → ⊥
  right_never bare h = none_never (value_at nodes levels right (k - from)) h.values.1 (value_bare nodes arena levels right (k - from) bare) h.values.3

  pub past_never : keys ≤ from → DiffersIn nodes keys levels left right from k → ⊥
  past_never past h = absurd (omega (arith, past, h.low, h.small))

-- a tree of no levels has one key
pub alone_differs : (nodes : List Node) (keys levels left right from k : ℕ) → levels ≡ 0 → DiffersIn nodes keys levels left right from k
    → (k ≡ from) × Differ (value_of (slice_get nodes left)) (value_of (slice_get nodes right))
alone_differs nodes keys levels left right from k e h =
    let alone : DiffersIn nodes keys 0 left right from k = subst (λ n. DiffersIn nodes keys n left right from k) e h in
    (omega (arith, alone.low, alone.high), alone.values)

pub differs_alone : (nodes : List Node) (keys levels left right from : ℕ) → levels ≡ 0 → from < keys → Differ (value_of (slice_get nodes left)) (value_of (slice_get nodes right))
    → DiffersIn nodes keys levels left right from from
differs_alone nodes keys levels left right from e small values =
    subst (λ n. DiffersIn nodes keys n left right from from) (sym e) (record { low = omega arith; high = omega arith; small = small; values = values })

module _ (nodes : List Node) (keys levels less left left_low left_high right right_low right_high from half : ℕ) (e : levels ≡ suc less) (is_half : half ≡ 2 ^ less)
    (of_left : HasHalves nodes left left_low left_high) (of_right : HasHalves nodes right right_low right_high) where
  low_differs : (k : ℕ) → k - from < 2 ^ less → Differ (value_at nodes levels left (k - from)) (value_at nodes levels right (k - from))
      ↔ Differ (value_at nodes less left_low (k - from)) (value_at nodes less right_low (k - from))
  low_differs k under = (
    differ_same (value_at nodes levels left (k - from)) (value_at nodes less left_low (k - from)) (value_at nodes levels right (k - from)) (value_at nodes less right_low (k - from)) a b,
    differ_same (value_at nodes less left_low (k - from)) (value_at nodes levels left (k - from)) (value_at nodes less right_low (k - from)) (value_at nodes levels right (k - from)) (sym a) (sym b),
  )
    where
      a : value_at nodes levels left (k - from) ≡ value_at nodes less left_low (k - from)
      a = value_low nodes levels less left left_low left_high (k - from) e of_left under

      b : value_at nodes levels right (k - from) ≡ value_at nodes less right_low (k - from)
      b = value_low nodes levels less right right_low right_high (k - from) e of_right under

  high_differs : (k : ℕ) → 2 ^ less ≤ k - from → Differ (value_at nodes levels left (k - from)) (value_at nodes levels right (k - from))
      ↔ Differ (value_at nodes less left_high (k - (from + half))) (value_at nodes less right_high (k - (from + half)))
  high_differs k over = (
    differ_same (value_at nodes levels left (k - from)) (value_at nodes less left_high (k - (from + half))) (value_at nodes levels right (k - from))
        (value_at nodes less right_high (k - (from + half))) a b,
    differ_same (value_at nodes less left_high (k - (from + half))) (value_at nodes levels left (k - from)) (value_at nodes less right_high (k - (from + half)))
        (value_at nodes levels right (k - from)) (sym a) (sym b),
  )
    where
      rest : (k - from) - 2 ^ less ≡ k - (from + half)
      rest = omega (arith, is_half, over)

      a : value_at nodes levels left (k - from) ≡ value_at nodes less left_high (k - (from + half))
      a = value_high nodes levels less left left_low left_high (k - from) e of_left over ∙ ap (value_at nodes less left_high) rest

      b : value_at nodes levels right (k - from) ≡ value_at nodes less right_high (k - (from + half))
      b = value_high nodes levels less right right_low right_high (k - from) e of_right over ∙ ap (value_at nodes less right_high) rest

  halves_differ : (k : ℕ) → DiffersIn nodes keys levels left right from k
      ↔ (DiffersIn nodes keys less left_low right_low from k ⊎ DiffersIn nodes keys less left_high right_high (from + half) k)
  halves_differ k =
      let double = twice less levels e in (
        λ h. elim (cases_lt (k - from) (2 ^ less)) [
          | inl under ↦ inl (record { low = h.low; high = omega (arith, h.low, under); small = h.small; values = (low_differs k under).0 h.values })
          | inr over ↦ inr (record {
            low = omega (arith, h.low, over, is_half);
            high = omega (arith, h.low, h.high, double, is_half);
            small = h.small;
            values = (high_differs k over).0 h.values;
          })
        ],
        λ h. elim h [
          | inl x ↦ record {
            low = x.low;
            high = omega (arith, x.high, double);
            small = x.small;
            values = (low_differs k (omega (arith, x.low, x.high))).1 x.values;
          }
          | inr x ↦ record {
            low = omega (arith, x.low);
            high = omega (arith, x.high, double, is_half);
            small = x.small;
            values = (high_differs k (omega (arith, x.low, is_half))).1 x.values;
          }
        ],
      )

  -- those of the lower halves, and then those of the upper halves
  pub adds_halves : (old mid new : List ℕ) → Adds old mid (DiffersIn nodes keys less left_low right_low from) → Adds mid new (DiffersIn nodes keys less left_high right_high (from + half))
      → Adds old new (DiffersIn nodes keys levels left right from)
  adds_halves old mid new low high =
      adds_both old mid new _ _ (DiffersIn nodes keys levels left right from) low high halves_differ (λ x y a b. omega (arith, a.high, b.low, is_half))

-- The search from marked nodes against the edges, step by step.
use Rattle.std.proofs.Common.{◌≡◌, ℕ, ◌<◌, ◌≤◌, zero, suc, Bool, true, false, List, [], ◌∷◌, ◌++◌, Some, ◌⊎◌, inl, inr, ◌↔◌, refl, sym, ap, ◌∙◌, subst, length, arith}
use Rattle.std.specs.Prelude.{slice_get, slice_set, Contains, replicate}
use Rattle.std.proofs.lemmas.Option.{slice_get_within}
use Rattle.std.proofs.lemmas.List.{length-set, length-replicate}
use Rattle.std.proofs.lemmas.List.Elements.{Contains-append_left, Contains-append_right, Contains-append_cases, Contains-push_cases}
use Rattle.type_reach.specs.Reach.{IsEdge, Leads, Reaches, step, further}
use Rattle.type_reach.specs.Sources.{IsReverse}
use Rattle.type_reach.specs.Spread.{IsSpread}
use Rattle.type_reach.proofs.Lists.{same_or_other, set_here, set_there}
use Rattle.type_reach.proofs.Ways.{against}

none_set : (n a : ℕ) → slice_get (replicate n false) a ≡ Some true → ⊥
none_set zero a e = absurd (cc e)
none_set (suc n) zero e = absurd (cc e)
none_set (suc n) (suc a) e = none_set n a e

reaches_against : (g : List (List ℕ)) (marks : List Bool) (a b : ℕ) → IsEdge g a b → Reaches g marks b → Reaches g marks a
reaches_against g marks a b edge (inl mark) = inr (b, step edge, mark)
reaches_against g marks a b edge (inr way) = inr (way.0, further edge way.1, way.2)

pub spread_begins : (g : List (List ℕ)) (marks reached : List Bool) (waiting : List ℕ) → reached ≡ replicate (length g) false
    → ((a : ℕ) → Contains waiting a ↔ (slice_get marks a ≡ Some true)) → IsSpread g marks reached waiting
spread_begins g marks reached waiting is marked = record {
  size = ap length is ∙ length-replicate (length g) false;
  sound = λ a e. absurd (none_set (length g) a (ap (λ bs. slice_get bs a) (sym is) ∙ e));
  due = λ a has. inl ((marked a).0 has);
  marked = λ a lt mark. inr ((marked a).1 mark);
  closed = λ a b edge e. absurd (none_set (length g) b (ap (λ bs. slice_get bs b) (sym is) ∙ e));
}

-- a node that waits and is none of the graph, or reached
pub spread_passes : (g : List (List ℕ)) (marks reached : List Bool) (rest : List ℕ) (n : ℕ) → IsSpread g marks reached (rest ++ n ∷ [])
    → (length reached ≤ n) ⊎ (slice_get reached n ≡ Some true) → IsSpread g marks reached rest
spread_passes g marks reached rest n h passed = record {
  size = h.size;
  sound = h.sound;
  due = λ a has. h.due a (Contains-append_left rest (n ∷ []) a has);
  marked = λ a lt mark. elim (h.marked a lt mark) [ inl e ↦ inl e | inr has ↦ stays a lt has ];
  closed = λ a b edge e. elim (h.closed a b edge e) [ inl e ↦ inl e | inr has ↦ stays a (slice_get_within g a edge.0 edge.1) has ];
}
  where
    stays : (a : ℕ) → a < length g → Contains (rest ++ n ∷ []) a → (slice_get reached a ≡ Some true) ⊎ Contains rest a
    stays a lt has = elim (Contains-push_cases rest n a has) [
      | inl waits ↦ inr waits
      | inr is ↦ elim passed [
        | inl past ↦ let size = h.size in absurd (omega (arith, past, is, lt, size))
        | inr set ↦ inl (ap (slice_get reached) (sym is) ∙ set)
      ]
    ]

-- a node that waits is reached, and the sources of its edges wait
pub spread_takes : (g : List (List ℕ)) (marks reached : List Bool) (rest row : List ℕ) (sources : List (List ℕ)) (n : ℕ) → IsSpread g marks reached (rest ++ n ∷ [])
    → IsReverse g sources → n < length reached → slice_get sources n ≡ Some row → IsSpread g marks (slice_set reached n true) (rest ++ row)
spread_takes g marks reached rest row sources n h turned lt row_is = record {
  size = length-set reached n true ∙ h.size;
  sound = λ a e. elim (same_or_other n a) [
    | inl is ↦ subst (Reaches g marks) is n_reaches
    | inr other ↦ h.sound a (sym (set_there reached n a true other) ∙ e)
  ];
  due = λ a has. elim (Contains-append_cases rest row a has) [
    | inl waits ↦ h.due a (Contains-append_left rest (n ∷ []) a waits)
    | inr added ↦ reaches_against g marks a n ((turned.1 a n).0 (row, row_is, added)) n_reaches
  ];
  marked = λ a lt mark. elim (h.marked a lt mark) [ inl e ↦ inl (kept a e) | inr has ↦ stays a has ];
  closed = λ a b edge e. elim (same_or_other n b) [
    | inl is ↦
        let there = (turned.1 a b).1 edge in
        let same : there.0 ≡ row = cc (there.1, ap (slice_get sources) is, row_is) in
        inr (Contains-append_right rest row a (subst (λ r. Contains r a) same there.2))
    | inr other ↦ elim (h.closed a b edge (sym (set_there reached n b true other) ∙ e)) [ inl e ↦ inl (kept a e) | inr has ↦ stays a has ]
  ];
}
  where
    n_reaches : Reaches g marks n
    n_reaches = h.due n (Contains-append_right rest (n ∷ []) n (0, omega arith, refl))

    here : slice_get (slice_set reached n true) n ≡ Some true
    here = set_here reached n true lt

    kept : (a : ℕ) → slice_get reached a ≡ Some true → slice_get (slice_set reached n true) a ≡ Some true
    kept a e = elim (same_or_other n a) [ inl is ↦ ap (slice_get (slice_set reached n true)) (sym is) ∙ here | inr other ↦ set_there reached n a true other ∙ e ]

    stays : (a : ℕ) → Contains (rest ++ n ∷ []) a → (slice_get (slice_set reached n true) a ≡ Some true) ⊎ Contains (rest ++ row) a
    stays a has = elim (Contains-push_cases rest n a has) [
      | inl waits ↦ inr (Contains-append_left rest row a waits)
      | inr is ↦ inl (ap (slice_get (slice_set reached n true)) (sym is) ∙ here)
    ]

pub spread_ends : (g : List (List ℕ)) (marks reached : List Bool) → IsSpread g marks reached [] → (a : ℕ) → a < length g → (slice_get reached a ≡ Some true) ↔ Reaches g marks a
spread_ends g marks reached h a lt = (h.sound a, reached_is)
  where
    none : (b : ℕ) → (slice_get reached b ≡ Some true) ⊎ Contains [] b → slice_get reached b ≡ Some true
    none b (inl e) = e
    none b (inr has) = absurd (omega (arith, has.1))

    end_is_node : {a b : ℕ} → Leads g a b → b < length g
    end_is_node (step edge) = edge.3
    end_is_node (further edge rest) = end_is_node rest

    reached_is : Reaches g marks a → slice_get reached a ≡ Some true
    reached_is (inl mark) = none a (h.marked a lt mark)
    reached_is (inr way) = against g (λ x. slice_get reached x ≡ Some true) (λ x y edge e. none x (h.closed x y edge e)) way.1 (none way.0 (h.marked way.0 (end_is_node way.1) way.2))

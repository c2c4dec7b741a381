-- How the search for cycles begins, leaves a part, and ends.
use Rattle.std.proofs.Common.{◌≡◌, ℕ, ◌+◌, ◌-◌, ◌<◌, ◌≤◌, zero, suc, Bool, true, false, List, [], ◌∷◌, ◌++◌, Option, Some, None, map, ◌⊎◌, inl, inr, ◌↔◌, refl, sym, ap, ◌∙◌, subst, length, take, drop, arith}
use Rattle.std.specs.Prelude.{slice_get, Contains}
use Rattle.std.specs.Option.{option_map}
use Rattle.std.proofs.lemmas.Option.{slice_get_within, slice_get-map}
use Rattle.std.proofs.lemmas.List.{length-take-le}
use Rattle.type_reach.specs.Reach.{IsEdge, Leads, step, further}
use Rattle.type_reach.specs.Sources.{HasTarget}
use Rattle.type_reach.specs.declared.search.Stage.{Stage}
use Rattle.type_reach.specs.declared.search.Stage.TheVariants as stage
use Rattle.type_reach.specs.declared.search.Part.{Part}
use Rattle.type_reach.specs.Paths.{IsDone, IsCycle, IsSearch, IsSet, is_new, is_on_cycle}
use Rattle.type_reach.specs.Spread.{left}
use Rattle.type_reach.proofs.Lists.{at_front, at_last, last_cases, taken, taken_back, dropped, dropped_back, there_is, contains_at, at_contains, left_falls}
use Rattle.type_reach.proofs.Steps.{under_last, none_open}
use Rattle.type_reach.proofs.Ways.{edge_of, joined, apart, along}

pub search_ends : (g : List (List ℕ)) (stages : List Stage) (path targets : List ℕ) (parts : List Part) → parts ≡ [] → IsSearch g stages path targets parts
    → ((a : ℕ) → a < length g → slice_get stages a ≡ Some stage.New → ⊥) → (a : ℕ) → (slice_get (map is_on_cycle stages) a ≡ Some true) ↔ Leads g a a
search_ends g stages path targets parts empty h all a = (λ e. on (slice_get stages a) refl (sym (slice_get-map is_on_cycle stages a) ∙ e), back)
  where
    on : (o : Option Stage) → slice_get stages a ≡ o → option_map is_on_cycle o ≡ Some true → Leads g a a
    on None is e = absurd (cc e)
    on (Some stage.New) is e = absurd (cc e)
    on (Some (stage.Open i)) is e = absurd (cc e)
    on (Some (stage.Done c)) is e = (h.right a c is).0 (cc e)

    begins : {b : ℕ} → Leads g a b → a < length g
    begins (step edge) = slice_get_within g a edge.0 edge.1
    begins (further edge rest) = slice_get_within g a edge.0 edge.1

    back : Leads g a a → slice_get (map is_on_cycle stages) a ≡ Some true
    back way = by (there_is stages a (subst (λ n. a < n) (sym h.size) (begins way)))
      where
        by : ((x : Stage) × (slice_get stages a ≡ Some x)) → slice_get (map is_on_cycle stages) a ≡ Some true
        by (stage.New, is) = absurd (all a (begins way) is)
        by (stage.Open i, is) = absurd (none_open g stages path targets parts empty h a i is)
        by (stage.Done c, is) = slice_get-map is_on_cycle stages a ∙ ap (option_map is_on_cycle) is ∙ ap Some ((h.right a c is).1 way)

module _ (g : List (List ℕ)) (stages closed : List Stage) (path targets : List ℕ) (parts : List Part) (part : Part) (on_cycle : Bool)
    (h : IsSearch g stages path targets (parts ++ part ∷ [])) (followed : length targets ≤ part.target)
    (same : IsSet stages closed (stage.Done on_cycle) (drop part.node path)) where
  part_at : slice_get (parts ++ part ∷ []) (length parts) ≡ Some part
  part_at = at_last parts part

  under : (k : ℕ) (p : Part) → slice_get (parts ++ part ∷ []) k ≡ Some p → (p.node ≤ part.node) × (p.target ≤ part.target)
  under = under_last g stages path targets parts part h

  old_part : (k : ℕ) (p : Part) → slice_get parts k ≡ Some p → slice_get (parts ++ part ∷ []) k ≡ Some p
  old_part k p is = at_front parts (part ∷ []) k p is

  -- a node is one of the part or stays as it was
  leaves : (a i : ℕ) → slice_get path i ≡ Some a → part.node ≤ i → slice_get closed a ≡ Some (stage.Done on_cycle)
  leaves a i is le = same.set a (at_contains (drop part.node path) (i - part.node) a (dropped_back part.node i path a le is)) (slice_get_within stages a (stage.Open i) (h.at i a is))

  member : (a : ℕ) → Contains (drop part.node path) a → (i : ℕ) × (part.node ≤ i) × (slice_get path i ≡ Some a)
  member a inside = let k = contains_at (drop part.node path) a inside in (part.node + k.0, omega arith, dropped part.node k.0 path a k.1)

  stays : (a i : ℕ) → slice_get path i ≡ Some a → i < part.node → slice_get closed a ≡ slice_get stages a
  stays a i is lt = same.kept a (λ inside.
      let m = member a inside in
      let one : Some (stage.Open i) ≡ Some (stage.Open m.0) = sym (h.at i a is) ∙ h.at m.0 a m.2 in
      let number : i ≡ m.0 = cc one in
      absurd (omega (arith, number, lt, m.1)))

  done_stays : (a : ℕ) (c : Bool) → slice_get stages a ≡ Some (stage.Done c) → slice_get closed a ≡ Some (stage.Done c)
  done_stays a c is = same.kept a (λ inside. let m = member a inside in let never : Some (stage.Done c) ≡ Some (stage.Open m.0) = sym is ∙ h.at m.0 a m.2 in absurd (cc never)) ∙ is

  -- what a node's stage was
  cases : (a : ℕ) (s : Stage) → slice_get closed a ≡ Some s
      → ((i : ℕ) × (part.node ≤ i) × (slice_get path i ≡ Some a) × (s ≡ stage.Done on_cycle)) ⊎ (slice_get stages a ≡ Some s)
  cases a s is = by_stage (there_is stages a (subst (λ n. a < n) same.size (slice_get_within closed a s is)))
    where
      by_place : (i : ℕ) → slice_get stages a ≡ Some (stage.Open i) → (i < part.node) ⊎ (part.node ≤ i)
          → ((i : ℕ) × (part.node ≤ i) × (slice_get path i ≡ Some a) × (s ≡ stage.Done on_cycle)) ⊎ (slice_get stages a ≡ Some s)
      by_place i was (inl lt) = inr (sym (stays a i (h.place a i was) lt) ∙ is)
      by_place i was (inr le) =
          let e : Some s ≡ Some (stage.Done on_cycle) = sym is ∙ leaves a i (h.place a i was) le in
          inl (i, le, h.place a i was, (cc e))

      by_stage : ((x : Stage) × (slice_get stages a ≡ Some x)) → ((i : ℕ) × (part.node ≤ i) × (slice_get path i ≡ Some a) × (s ≡ stage.Done on_cycle)) ⊎ (slice_get stages a ≡ Some s)
      by_stage (stage.New, was) = inr (sym (same.kept a (λ inside. let m = member a inside in let never : Some stage.New ≡ Some (stage.Open m.0) = sym was ∙ h.at m.0 a m.2 in absurd (cc never))) ∙ is)
      by_stage (stage.Done c, was) = inr (was ∙ sym (done_stays a c was) ∙ is)
      by_stage (stage.Open i, was) = by_place i was (let t : (i < part.node) ⊎ (part.node ≤ i) = grind arith in t)

  -- the targets of the part are done, or in it
  target_of : (a b i : ℕ) → IsEdge g a b → slice_get path i ≡ Some a → part.node ≤ i → IsDone stages b ⊎ ((j : ℕ) × (part.node ≤ j) × (slice_get path j ≡ Some b))
  target_of a b i edge is le = elim (h.met a b i edge (h.at i a is)) [
    | inl done ↦ inl done
    | inr (inl found) ↦ inr (found.0, found.2 (length parts) part part_at le, h.place b found.0 found.1)
    | inr (inr due) ↦ let lt = slice_get_within targets due.0 b due.1 in let past = due.2 (length parts) part part_at le in absurd (omega (arith, lt, past, followed))
  ]

  now_done : (a b i : ℕ) → IsEdge g a b → slice_get path i ≡ Some a → part.node ≤ i → IsDone closed b
  now_done a b i edge is le = elim (target_of a b i edge is le) [
    | inl done ↦ (done.0, done_stays b done.0 done.1)
    | inr inside ↦ (on_cycle, leaves b inside.0 inside.2 inside.1)
  ]

  -- two places of the part: a way leads from the first back to itself
  way_round : (i j a b : ℕ) → slice_get path i ≡ Some a → slice_get path j ≡ Some b → part.node ≤ i → part.node ≤ j → (i ≡ j → ⊥) → Leads g a a
  way_round i j a b is is' le le' other =
      let differ : a ≡ b → ⊥ = λ e. other (let one : Some (stage.Open i) ≡ Some (stage.Open j) = sym (h.at i a is) ∙ ap (slice_get stages) e ∙ h.at j b is' in cc one) in
      let there : Leads g a b = apart g a b (h.chain i j a b is is' (λ k p at low. let most = (under k p at).0 in omega (arith, most, le'))) differ in
      let back : Leads g b a = apart g b a (h.chain j i b a is' is (λ k p at low. let most = (under k p at).0 in omega (arith, most, le))) (λ e. differ (sym e)) in
      joined there back

  module _ (says : (on_cycle ≡ true) ↔ IsCycle g (drop part.node path)) where
    cycle_is : (a i : ℕ) → slice_get path i ≡ Some a → part.node ≤ i → on_cycle ≡ true → Leads g a a
    cycle_is a i is le holds = by (says.0 holds)
      where
        other_place : (m n : ℕ) → 1 < n → (k : ℕ) × (k < n) × (m ≡ k → ⊥)
        other_place zero n lt = (1, lt, λ e. absurd (omega (arith, e)))
        other_place (suc m) n lt = (0, omega (arith, lt), λ e. absurd (omega (arith, e)))

        by : IsCycle g (drop part.node path) → Leads g a a
        by (inl two) =
            let k = other_place (i - part.node) (length (drop part.node path)) two in
            let b = there_is (drop part.node path) k.0 k.1 in
            way_round i (part.node + k.0) a b.0 is (dropped part.node k.0 path b.0 b.1) le (omega arith) (λ e. k.2 (omega (arith, e)))
        by (inr own) =
            let e : slice_get (own.0 ∷ []) (i - part.node) ≡ Some a = ap (λ xs. slice_get xs (i - part.node)) (sym own.1) ∙ dropped_back part.node i path a le is in
            let itself = only (i - part.node) own.0 e in
            step (edge_of g a a (subst (λ x. HasTarget g x x) itself own.2) (subst (λ n. a < n) h.size (slice_get_within stages a (stage.Open i) (h.at i a is))))
          where
            only : (k x : ℕ) → slice_get (x ∷ []) k ≡ Some a → x ≡ a
            only zero x e = cc e
            only (suc k) x e = absurd (cc e)

    cycle_if : (a i : ℕ) → slice_get path i ≡ Some a → part.node ≤ i → Leads g a a → on_cycle ≡ true
    cycle_if a i is le way = by_test on_cycle refl
      where
        by_test : (b : Bool) → on_cycle ≡ b → on_cycle ≡ true
        by_test true e = e
        by_test false e = absurd (never way)
          where
            not_cycle : IsCycle g (drop part.node path) → ⊥
            not_cycle cycle = let yes : true ≡ false = sym (says.1 cycle) ∙ e in absurd (cc yes)

            one_item : (xs : List ℕ) → length xs ≤ 1 → Contains xs a → xs ≡ a ∷ []
            one_item [] few has = absurd (omega (arith, has.1))
            one_item (x ∷ []) few has = let k = contains_at (x ∷ []) a has in ap (λ y. y ∷ []) (first k.0 x k.1)
              where
                first : (k x : ℕ) → slice_get (x ∷ []) k ≡ Some a → x ≡ a
                first zero x e = cc e
                first (suc k) x e = absurd (cc e)
            one_item (x ∷ y ∷ xs) few has = absurd (omega (arith, few))

            inside : Contains (drop part.node path) a
            inside = at_contains (drop part.node path) (i - part.node) a (dropped_back part.node i path a le is)

            alone : drop part.node path ≡ a ∷ []
            alone = one_item (drop part.node path) (few (length (drop part.node path)) (λ lt. not_cycle (inl lt))) inside
              where
                few : (n : ℕ) → (1 < n → ⊥) → n ≤ 1
                few n not = grind (arith, not)

            own_not : IsEdge g a a → ⊥
            own_not edge = not_cycle (inr (a, alone, (edge.0, edge.1, edge.2)))

            -- a target of the only node is done before
            only_done : (b : ℕ) → IsEdge g a b → IsDone stages b
            only_done b edge = elim (target_of a b i edge is le) [
              | inl done ↦ done
              | inr found ↦
                  let e : slice_get (a ∷ []) (found.0 - part.node) ≡ Some b = ap (λ xs. slice_get xs (found.0 - part.node)) (sym alone) ∙ dropped_back part.node found.0 path b found.1 found.2 in
                  absurd (own_not (subst (λ x. IsEdge g a x) (sym (only (found.0 - part.node) b e)) edge))
            ]
              where
                only : (k b : ℕ) → slice_get (a ∷ []) k ≡ Some b → a ≡ b
                only zero b e = cc e
                only (suc k) b e = absurd (cc e)

            not_done : IsDone stages a → ⊥
            not_done done = let both : Some (stage.Done done.0) ≡ Some (stage.Open i) = sym done.1 ∙ h.at i a is in absurd (cc both)

            never : Leads g a a → ⊥
            never (step edge) = own_not edge
            never (further {m = m} edge rest) = not_done (along g (IsDone stages) (λ x y e done. h.closed x y done.0 e done.1) rest (only_done m edge))

    pub search_closes : IsSearch g closed (take part.node path) targets parts
    search_closes = record {
      size = same.size ∙ h.size;
      at = λ i a is. let t = taken part.node i path a is in stays a i t.1 t.0 ∙ h.at i a t.1;
      place = λ a i is. elim (cases a (stage.Open i) is) [
        | inl left ↦ absurd (cc left.3)
        | inr was ↦ taken_back part.node i path a (below a i is was) (h.place a i was)
      ];
      chain = λ i j a b is is' ahead.
          let t = taken part.node i path a is in
          let t' = taken part.node j path b is' in
          h.chain i j a b t.1 t'.1 (λ k p at low. elim (last_cases parts part p k at) [
            | inl old ↦ ahead k p old low
            | inr last ↦ let place_is : p.node ≡ part.node = ap (λ (x : Part). x.node) last.0 in absurd (omega (arith, place_is, low, t.0))
          ]);
      sorted = λ k l p q le is is'. h.sorted k l p q le (old_part k p is) (old_part l q is');
      within = λ k p is.
          let low = under k p (old_part k p is) in
          let bound = h.within (length parts) part part_at in
          let long = length-take-le part.node path bound.0 in
          (omega (arith, low.0, long), omega (arith, low.1, bound.1));
      covered = λ i a is.
          let t = taken part.node i path a is in
          let c = h.covered i a t.1 in
          elim (last_cases parts part c.1 c.0 c.2) [
            | inl old ↦ (c.0, c.1, old, c.3)
            | inr last ↦ let place_is : c.1.node ≡ part.node = ap (λ (x : Part). x.node) last.0 in absurd (omega (arith, place_is, c.3, t.0))
          ];
      source = λ e b is.
          let s = h.source e b is in
          let lt = slice_get_within targets e b is in
          let low : s.0 < part.node = below_part s.0 (λ le. let past = s.5 (length parts) part part_at le in omega (arith, past, lt, followed)) in
          (s.0, s.1, taken_back part.node s.0 path s.1 low s.2, s.3, (λ k p at. s.4 k p (old_part k p at)), (λ k p at. s.5 k p (old_part k p at)));
      met = λ a b i edge is. elim (cases a (stage.Open i) is) [
        | inl left ↦ absurd (cc left.3)
        | inr was ↦ elim (h.met a b i edge was) [
          | inl done ↦ inl (done.0, done_stays b done.0 done.1)
          | inr (inl found) ↦ elim (below_or_not found.0) [
            | inl lt ↦ inr (inl (found.0, stays b found.0 (h.place b found.0 found.1) lt ∙ found.1, λ k p at. found.2 k p (old_part k p at)))
            | inr le ↦ inl (on_cycle, leaves b found.0 (h.place b found.0 found.1) le)
          ]
          | inr (inr due) ↦ inr (inr (due.0, due.1, λ k p at. due.2 k p (old_part k p at)))
        ]
      ];
      closed = λ a b c edge is. elim (cases a (stage.Done c) is) [
        | inl left ↦ now_done a b left.0 edge left.2 left.1
        | inr was ↦ let done = h.closed a b c edge was in (done.0, done_stays b done.0 done.1)
      ];
      right = λ a c is. elim (cases a (stage.Done c) is) [
        | inl left ↦
            let is_c : c ≡ on_cycle = cc left.3 in
            (λ holds. cycle_is a left.0 left.2 left.1 (sym is_c ∙ holds), λ way. is_c ∙ cycle_if a left.0 left.2 left.1 way)
        | inr was ↦ h.right a c was
      ];
    }
      where
        below_or_not : (j : ℕ) → (j < part.node) ⊎ (part.node ≤ j)
        below_or_not j = grind arith

        below_part : (i : ℕ) → (part.node ≤ i → ⊥) → i < part.node
        below_part i not = grind (arith, not)

        below : (a i : ℕ) → slice_get closed a ≡ Some (stage.Open i) → slice_get stages a ≡ Some (stage.Open i) → i < part.node
        below a i is was = below_part i (λ le. let never : Some (stage.Done on_cycle) ≡ Some (stage.Open i) = sym (leaves a i (h.place a i was) le) ∙ is in absurd (cc never))

  pub closes_old : (a : ℕ) (s : Stage) → slice_get closed a ≡ Some s → (s ≡ stage.Done on_cycle → ⊥) → slice_get stages a ≡ Some s
  closes_old a s is not = elim (cases a s is) [ inl left ↦ absurd (not left.3) | inr was ↦ was ]

  pub closes_less : left is_new closed g ≤ left is_new stages g
  closes_less = left_falls is_new stages closed g same.size (λ a s is new. (s, closes_old a s is (λ e. let never : false ≡ true = ap is_new (sym e) ∙ new in cc never), new))

  pub closes_kept : (a : ℕ) → slice_get closed a ≡ Some stage.New → slice_get stages a ≡ Some stage.New
  closes_kept a is = closes_old a stage.New is (λ e. cc e)

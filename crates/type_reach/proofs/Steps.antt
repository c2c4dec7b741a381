-- The search for cycles, step by step.
use Rattle.std.proofs.Common.{◌≡◌, ℕ, ◌+◌, ◌<◌, ◌≤◌, false, List, [], ◌∷◌, ◌++◌, Some, ◌⊎◌, inl, inr, sym, ap, ◌∙◌, subst, length, arith}
use Rattle.std.specs.Prelude.{slice_get, slice_set, Contains}
use Rattle.std.proofs.lemmas.Option.{slice_get_within}
use Rattle.std.proofs.lemmas.List.{length-set, length_push, length-append}
use Rattle.type_reach.specs.Reach.{IsEdge, Leads, step}
use Rattle.type_reach.specs.declared.search.Stage.{Stage}
use Rattle.type_reach.specs.declared.search.Stage.TheVariants as stage
use Rattle.type_reach.specs.declared.search.Part.{Part}
use Rattle.type_reach.specs.Paths.{IsDone, IsAhead, IsMet, IsSearch}
use Rattle.type_reach.proofs.Lists.{at_front, at_end, at_cases, at_last, last_cases, same_or_other, set_here, set_there, contains_at, at_contains}
use Rattle.type_reach.proofs.Ways.{edge_of, behind, before}

module _ (g : List (List ℕ)) (stages : List Stage) (path : List ℕ) where
  -- a part more
  more_ahead : (parts : List Part) (p : Part) (i j : ℕ) → (i < p.node) ⊎ (p.node ≤ j) → IsAhead parts i j → IsAhead (parts ++ p ∷ []) i j
  more_ahead parts p i j here h k q at le = elim (last_cases parts p q k at) [
    | inl was ↦ h k q was le
    | inr last ↦
        let is : q.node ≡ p.node = ap (λ (x : Part). x.node) last.0 in
        elim here [ inl lt ↦ absurd (omega (arith, lt, le, is)) | inr ok ↦ omega (arith, ok, is) ]
  ]

  -- the target on top is passed over: it is done, or in the last part
  pub search_skips : (targets : List ℕ) (b : ℕ) (parts : List Part) → IsSearch g stages path (targets ++ b ∷ []) parts
      → ((k : ℕ) (p : Part) → slice_get parts k ≡ Some p → p.target ≤ length targets)
      → (b < length g → IsDone stages b ⊎ ((j : ℕ) × (slice_get stages b ≡ Some (stage.Open j)) × ((k : ℕ) (p : Part) → slice_get parts k ≡ Some p → p.node ≤ j)))
      → IsSearch g stages path targets parts
  search_skips targets b parts h low passed = record {
    size = h.size;
    at = h.at;
    place = h.place;
    chain = h.chain;
    sorted = h.sorted;
    within = λ k p at. ((h.within k p at).0, low k p at);
    covered = h.covered;
    source = λ e c at. h.source e c (at_front targets (b ∷ []) e c at);
    met = λ a c i edge at. elim (h.met a c i edge at) [
      | inl done ↦ inl done
      | inr (inl found) ↦ inr (inl found)
      | inr (inr due) ↦ elim (last_cases targets b c due.0 due.1) [
        | inl was ↦ inr (inr (due.0, was, due.2))
        | inr last ↦ passed_over c last.0 (passed (subst (λ x. x < length g) last.0 edge.3)) i
      ]
    ];
    closed = h.closed;
    right = h.right;
  }
    where
      passed_over : (c : ℕ) → c ≡ b → IsDone stages b ⊎ ((j : ℕ) × (slice_get stages b ≡ Some (stage.Open j)) × ((k : ℕ) (p : Part) → slice_get parts k ≡ Some p → p.node ≤ j))
          → (i : ℕ) → IsMet stages targets parts i c
      passed_over c is (inl done) i = inl (done.0, ap (slice_get stages) is ∙ done.1)
      passed_over c is (inr found) i = inr (inl (found.0, ap (slice_get stages) is ∙ found.1, λ k p at le. found.2 k p at))

  -- the last part joins the one before it, since its target on top stands further back in the path
  pub search_joins : (targets : List ℕ) (b at : ℕ) (parts : List Part) (part : Part) → IsSearch g stages path (targets ++ b ∷ []) (parts ++ part ∷ [])
      → part.target ≤ length targets → slice_get stages b ≡ Some (stage.Open at) → at < part.node → IsSearch g stages path (targets ++ b ∷ []) parts
  search_joins targets b at parts part h low open_is back =
      let all = parts ++ part ∷ [] in
      let kept : (k : ℕ) (p : Part) → slice_get parts k ≡ Some p → slice_get all k ≡ Some p = λ k p is. at_front parts (part ∷ []) k p is in
      let part_is : slice_get all (length parts) ≡ Some part = at_last parts part in
      let src = h.source (length targets) b (at_last targets b) in
      let top : part.node ≤ src.0 = src.4 (length parts) part part_is low in
      let edge : IsEdge g src.1 b = edge_of g src.1 b src.3 (subst (λ n. b < n) h.size (slice_get_within stages b (stage.Open at) open_is)) in
      record {
        size = h.size;
        at = h.at;
        place = h.place;
        chain = λ i j x y is_x is_y ahead. elim (below_or_not part.node i j) [
          | inl here ↦ h.chain i j x y is_x is_y (more_ahead parts part i j here ahead)
          | inr apart ↦ inr (before g x src.1 y
              (h.chain i src.0 x src.1 is_x src.2 (λ k p is le. let lt = slice_get_within all k p is in
              let under = (h.sorted k (length parts) p part (omega (arith, lt, length_push parts part)) is part_is).0 in omega (arith, under, top)))
              (behind g src.1 b y (step edge)
              (h.chain at j b y (h.place b at open_is) is_y (more_ahead parts part at j (inl back) (λ k p is le. ahead k p is (omega (arith, le, back, apart)))))))
        ];
        sorted = λ k l p q le is is'. h.sorted k l p q le (kept k p is) (kept l q is');
        within = λ k p is. h.within k p (kept k p is);
        covered = λ i a is.
            let own = h.covered i a is in
            elim (last_cases parts part own.1 own.0 own.2) [
              | inl was ↦ (own.0, own.1, was, own.3)
              | inr last ↦
                  let other = h.covered at b (h.place b at open_is) in
                  elim (last_cases parts part other.1 other.0 other.2) [
                    | inl was ↦ (other.0, other.1, was, (let same : own.1.node ≡ part.node = ap (λ (x : Part). x.node) last.0 in omega (arith, same, own.3, other.3, back)))
                    | inr last' ↦ absurd (let same : other.1.node ≡ part.node = ap (λ (x : Part). x.node) last'.0 in omega (arith, same, other.3, back))
                  ]
            ];
        source = λ e c is. let s = h.source e c is in (s.0, s.1, s.2, s.3, (λ k p is' le. s.4 k p (kept k p is') le), (λ k p is' le. s.5 k p (kept k p is') le));
        met = λ a c i e is. elim (h.met a c i e is) [
          | inl done ↦ inl done
          | inr (inl found) ↦ inr (inl (found.0, found.1, λ k p is' le. found.2 k p (kept k p is') le))
          | inr (inr due) ↦ inr (inr (due.0, due.1, λ k p is' le. due.2 k p (kept k p is') le))
        ];
        closed = h.closed;
        right = h.right;
      }
    where
      below_or_not : (n i j : ℕ) → ((i < n) ⊎ (n ≤ j)) ⊎ ((n ≤ i) × (j < n))
      below_or_not n i j = grind arith

  -- a new node is opened as a part of its own: the first one, or the target on top, which has been taken
  pub search_enters : (old_targets targets more : List ℕ) (a : ℕ) (parts : List Part) → IsSearch g stages path old_targets parts → slice_get stages a ≡ Some stage.New
      → ((i x : ℕ) → slice_get path i ≡ Some x → Leads g x a) → ((e b : ℕ) → slice_get targets e ≡ Some b → slice_get old_targets e ≡ Some b)
      → ((e b : ℕ) → slice_get old_targets e ≡ Some b → (slice_get targets e ≡ Some b) ⊎ (b ≡ a))
      → ((k : ℕ) (p : Part) → slice_get parts k ≡ Some p → p.target ≤ length targets) → slice_get g a ≡ Some more
      → IsSearch g (slice_set stages a (stage.Open (length path))) (path ++ a ∷ []) (targets ++ more) (parts ++ record { node = length path; target = length targets } ∷ [])
  search_enters old_targets targets more a parts h new above fewer taken low row = record {
    size = length-set stages a (stage.Open n) ∙ h.size;
    at = λ i x is. elim (last_cases path a x i is) [
      | inl was ↦ kept x (stage.Open i) (h.at i x was) (λ e. cc e)
      | inr last ↦ ap (slice_get opened) last.0 ∙ here ∙ ap (λ k. Some (stage.Open k)) (sym last.1)
    ];
    place = λ x i is. elim (same_or_other a x) [
      | inl same ↦
          let e : Some (stage.Open n) ≡ Some (stage.Open i) = sym here ∙ ap (slice_get opened) same ∙ is in
          let number : n ≡ i = cc e in
          ap (slice_get (path ++ a ∷ [])) (sym number) ∙ at_last path a ∙ ap Some same
      | inr other ↦ at_front path (a ∷ []) i x (h.place x i (was x (stage.Open i) other is))
    ];
    chain = λ i j x y is is' ahead. elim (last_cases path a x i is) [
      | inl old ↦ elim (last_cases path a y j is') [
        | inl old' ↦ h.chain i j x y old old' (fewer_ahead i j ahead)
        | inr last ↦ inr (subst (λ z. Leads g x z) (sym last.0) (above i x old))
      ]
      | inr last ↦ elim (last_cases path a y j is') [
        | inl old' ↦ let lt = slice_get_within path j y old' in let le = ahead (length parts) part (at_last parts part) (omega (arith, last.1)) in absurd (omega (arith, lt, le))
        | inr last' ↦ inl (last.0 ∙ sym last'.0)
      ]
    ];
    sorted = λ k l p q le is is'. elim (last_cases parts part q l is') [
      | inl old' ↦ elim (last_cases parts part p k is) [
        | inl old ↦ h.sorted k l p q le old old'
        | inr last ↦ let lt = slice_get_within parts l q old' in absurd (omega (arith, lt, le, last.1))
      ]
      | inr last' ↦
          let q_node : q.node ≡ n = ap (λ (x : Part). x.node) last'.0 in
          let q_target : q.target ≡ length targets = ap (λ (x : Part). x.target) last'.0 in
          elim (last_cases parts part p k is) [
            | inl old ↦ let node = (h.within k p old).0 in let target = low k p old in (omega (arith, node, q_node), omega (arith, target, q_target))
            | inr last ↦ let same : p ≡ q = last.0 ∙ sym last'.0 in (omega (arith, ap (λ (x : Part). x.node) same), omega (arith, ap (λ (x : Part). x.target) same))
          ]
    ];
    within = λ k p is.
        let paths = length_push path a in
        let targets_are = length-append targets more in
        elim (last_cases parts part p k is) [
          | inl old ↦ let node = (h.within k p old).0 in let target = low k p old in (omega (arith, node, paths), omega (arith, target, targets_are))
          | inr last ↦
              let p_node : p.node ≡ n = ap (λ (x : Part). x.node) last.0 in
              let p_target : p.target ≡ length targets = ap (λ (x : Part). x.target) last.0 in
              (omega (arith, p_node, paths), omega (arith, p_target, targets_are))
        ];
    covered = λ i x is. elim (last_cases path a x i is) [
      | inl old ↦ let c = h.covered i x old in (c.0, c.1, at_front parts (part ∷ []) c.0 c.1 c.2, c.3)
      | inr last ↦ (length parts, part, at_last parts part, omega (arith, last.1))
    ];
    source = λ e b is. elim (at_cases targets more e b is) [
      | inl old ↦
          let s = h.source e b (fewer e b old) in
          let lt = slice_get_within targets e b old in
          let inside = slice_get_within path s.0 s.1 s.2 in (
            s.0,
            s.1,
            at_front path (a ∷ []) s.0 s.1 s.2,
            s.3,
            λ k p is' le. elim (last_cases parts part p k is') [
              | inl at ↦ s.4 k p at le
              | inr last ↦ let p_target : p.target ≡ length targets = ap (λ (x : Part). x.target) last.0 in absurd (omega (arith, p_target, le, lt))
            ],
            λ k p is' le. elim (last_cases parts part p k is') [
              | inl at ↦ s.5 k p at le
              | inr last ↦ let p_node : p.node ≡ n = ap (λ (x : Part). x.node) last.0 in absurd (omega (arith, p_node, le, inside))
            ],
          )
      | inr added ↦ (
        n,
        a,
        at_last path a,
        (more, row, at_contains more added.0 b added.2),
        λ k p is' le. elim (last_cases parts part p k is') [
          | inl at ↦ (h.within k p at).0
          | inr last ↦ omega (arith, ap (λ (x : Part). x.node) last.0)
        ],
        λ k p is' le. elim (last_cases parts part p k is') [
          | inl at ↦ let target = low k p at in omega (arith, target, added.1)
          | inr last ↦ omega (arith, ap (λ (x : Part). x.target) last.0, added.1)
        ],
      )
    ];
    met = λ x b i edge is. elim (same_or_other a x) [
      | inl same ↦
          let e : Some (stage.Open n) ≡ Some (stage.Open i) = sym here ∙ ap (slice_get opened) same ∙ is in
          let number : n ≡ i = cc e in
          let rows : more ≡ edge.0 = cc (row, ap (slice_get g) same ∙ edge.1) in
          let at = contains_at more b (subst (λ r. Contains r b) (sym rows) edge.2) in
          inr (inr (
            length targets + at.0,
            at_end targets more at.0 ∙ at.1,
            λ k p is' le. elim (last_cases parts part p k is') [
              | inl old ↦ let target = low k p old in omega (arith, target)
              | inr last ↦ omega (arith, ap (λ (x : Part). x.target) last.0)
            ],
          ))
      | inr other ↦
          let i_is = was x (stage.Open i) other is in
          let lt = slice_get_within path i x (h.place x i i_is) in
          elim (h.met x b i edge i_is) [
            | inl done ↦ inl (done.0, kept b (stage.Done done.0) done.1 (λ e. cc e))
            | inr (inl found) ↦ inr (inl (found.0, kept b (stage.Open found.0) found.1 (λ e. cc e), more_ahead parts part i found.0 (inl lt) found.2))
            | inr (inr due) ↦ elim (taken due.0 b due.1) [
              | inl stays ↦ inr (inr (
                due.0,
                at_front targets more due.0 b stays,
                λ k p is' le. elim (last_cases parts part p k is') [
                  | inl old ↦ due.2 k p old le
                  | inr last ↦ let p_node : p.node ≡ n = ap (λ (x : Part). x.node) last.0 in absurd (omega (arith, p_node, le, lt))
                ],
              ))
              | inr is_a ↦ inr (inl (n, ap (slice_get opened) is_a ∙ here, λ k p is' le. omega (arith, le, lt)))
            ]
          ]
    ];
    closed = λ x b c edge is. elim (same_or_other a x) [
      | inl same ↦ let never : Some (stage.Open n) ≡ Some (stage.Done c) = sym here ∙ ap (slice_get opened) same ∙ is in absurd (cc never)
      | inr other ↦ let done = h.closed x b c edge (was x (stage.Done c) other is) in (done.0, kept b (stage.Done done.0) done.1 (λ e. cc e))
    ];
    right = λ x c is. elim (same_or_other a x) [
      | inl same ↦ let never : Some (stage.Open n) ≡ Some (stage.Done c) = sym here ∙ ap (slice_get opened) same ∙ is in absurd (cc never)
      | inr other ↦ h.right x c (was x (stage.Done c) other is)
    ];
  }
    where
      n : ℕ
      n = length path

      opened : List Stage
      opened = slice_set stages a (stage.Open n)

      part : Part
      part = record { node = n; target = length targets }

      here : slice_get opened a ≡ Some (stage.Open n)
      here = set_here stages a (stage.Open n) (slice_get_within stages a stage.New new)

      was : (x : ℕ) (s : Stage) → (a ≡ x → ⊥) → slice_get opened x ≡ Some s → slice_get stages x ≡ Some s
      was x s other is = sym (set_there stages a x (stage.Open n) other) ∙ is

      kept : (x : ℕ) (s : Stage) → slice_get stages x ≡ Some s → (s ≡ stage.New → ⊥) → slice_get opened x ≡ Some s
      kept x s is not = elim (same_or_other a x) [
        | inl same ↦ let e : Some stage.New ≡ Some s = sym new ∙ ap (slice_get stages) same ∙ is in absurd (not (cc e))
        | inr other ↦ set_there stages a x (stage.Open n) other ∙ is
      ]

      fewer_ahead : (i j : ℕ) → IsAhead (parts ++ part ∷ []) i j → IsAhead parts i j
      fewer_ahead i j ahead k p is le = ahead k p (at_front parts (part ∷ []) k p is) le

  -- no part begins behind the last one
  pub under_last : (targets : List ℕ) (parts : List Part) (part : Part) → IsSearch g stages path targets (parts ++ part ∷ [])
      → (k : ℕ) (p : Part) → slice_get (parts ++ part ∷ []) k ≡ Some p → (p.node ≤ part.node) × (p.target ≤ part.target)
  under_last targets parts part h k p is =
      let lt = slice_get_within (parts ++ part ∷ []) k p is in
      h.sorted k (length parts) p part (omega (arith, lt, length_push parts part)) is (at_last parts part)

  -- the target on top is new
  pub search_follows : (targets more : List ℕ) (b : ℕ) (parts : List Part) (part : Part) → IsSearch g stages path (targets ++ b ∷ []) (parts ++ part ∷ []) → part.target ≤ length targets
      → slice_get stages b ≡ Some stage.New → slice_get g b ≡ Some more
      → IsSearch g (slice_set stages b (stage.Open (length path))) (path ++ b ∷ []) (targets ++ more) ((parts ++ part ∷ []) ++ record { node = length path; target = length targets } ∷ [])
  search_follows targets more b parts part h low new row =
      let all = parts ++ part ∷ [] in
      let part_is : slice_get all (length parts) ≡ Some part = at_last parts part in
      let under = under_last (targets ++ b ∷ []) parts part h in
      let src = h.source (length targets) b (at_last targets b) in
      let top : part.node ≤ src.0 = src.4 (length parts) part part_is low in
      search_enters (targets ++ b ∷ []) targets more b all h new
      (λ i x is. before g x src.1 b (h.chain i src.0 x src.1 is src.2 (λ k p at le. let most = (under k p at).0 in omega (arith, most, top))) (step (edge_of g src.1 b src.3 (slice_get_within g b more row))))
      (λ e c is. at_front targets (b ∷ []) e c is)
      (λ e c is. elim (last_cases targets b c e is) [ inl was ↦ inl was | inr last ↦ inr last.0 ])
      (λ k p is. let most = (under k p is).1 in omega (arith, most, low)) row

  -- the first node of a path
  pub search_starts : (targets more : List ℕ) (a : ℕ) (parts : List Part) → parts ≡ [] → IsSearch g stages path targets parts → slice_get stages a ≡ Some stage.New → slice_get g a ≡ Some more
      → IsSearch g (slice_set stages a (stage.Open (length path))) (path ++ a ∷ []) (targets ++ more) (parts ++ record { node = length path; target = length targets } ∷ [])
  search_starts targets more a parts empty h new row =
      search_enters targets targets more a parts h new (λ i x is. let c = h.covered i x is in absurd (none c.0 c.1 c.2)) (λ e b is. is) (λ e b is. inl is) (λ k p is. absurd (none k p is)) row
    where
      none : (k : ℕ) (p : Part) → slice_get parts k ≡ Some p → ⊥
      none k p is = let never : slice_get [] k ≡ Some p = ap (λ ps. slice_get ps k) (sym empty) ∙ is in cc never

-- where there are no parts, a node is new or done
pub none_open : (g : List (List ℕ)) (stages : List Stage) (path targets : List ℕ) (parts : List Part) → parts ≡ [] → IsSearch g stages path targets parts
    → (a i : ℕ) → slice_get stages a ≡ Some (stage.Open i) → ⊥
none_open g stages path targets parts empty h a i is =
    let c = h.covered i a (h.place a i is) in
    let never : slice_get [] c.0 ≡ Some c.1 = ap (λ ps. slice_get ps c.0) (sym empty) ∙ c.2 in
    cc never

-- a node that is opened is no longer new
pub opened_kept : (stages : List Stage) (a i b : ℕ) → slice_get (slice_set stages a (stage.Open i)) b ≡ Some stage.New → a < length stages → slice_get stages b ≡ Some stage.New
opened_kept stages a i b is lt = elim (same_or_other a b) [
  | inl same ↦ let never : Some (stage.Open i) ≡ Some stage.New = sym (set_here stages a (stage.Open i) lt) ∙ ap (slice_get (slice_set stages a (stage.Open i))) same ∙ is in absurd (cc never)
  | inr other ↦ sym (set_there stages a b (stage.Open i) other) ∙ is
]

-- what the code reads of a stage that is not `Done`
pub not_past : (stages : List Stage) (b : ℕ) (x y : Stage) → (slice_get stages b ≡ Some x) ⊎ ((length stages ≤ b) × (x ≡ stage.Done false)) → x ≡ y → (y ≡ stage.Done false → ⊥) → slice_get stages b ≡ Some y
not_past stages b x y (inl is) e not = is ∙ ap Some e
not_past stages b x y (inr past) e not = absurd (not (sym e ∙ past.1))

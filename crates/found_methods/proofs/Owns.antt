-- The methods of one label that a class declares, method by method.
use Rattle.std.proofs.Common.{◌≡◌, ℕ, ◌+◌, ◌<◌, ◌≤◌, zero, suc, List, [], ◌∷◌, ◌++◌, Option, Some, None, ◌⊎◌, inl, inr, refl, sym, ap, ◌∙◌, subst, length, get_or, arith}
use Rattle.std.specs.Prelude.{slice_get, slice_set, replicate, unwrap_or}
use Rattle.std.specs.List.{Contains}
use Rattle.std.specs.List.Sorted.{IsStrictlyIncreasing}
use Rattle.std.proofs.lemmas.Bool.{cases_lt}
use Rattle.std.proofs.lemmas.List.{length_push, length-replicate, get_or_append_left}
use Rattle.std.proofs.lemmas.List.Elements.{Contains-push, Contains-push_cases, Contains-append_left, Contains-get_or}
use Rattle.std.proofs.lemmas.Option.{slice_get_within, get_or_from_slice_get}
use Rattle.class_world.specs.declared.world.World.{World}
use Rattle.class_world.specs.declared.world.MethodInfo.{MethodInfo}
use Rattle.class_world.specs.Signatures.{IsMethod}
use Rattle.class_world.specs.Inheritance.{DeclaresMethod}
use Rattle.class_world.proofs.Words.{set_here, set_there, same_or_other, length_set}
use Rattle.overrides.specs.Tables.{Rows, IsWritten, AreOfOneSize, value_at}
use Rattle.overrides.proofs.Places.{low_or_last}
use Rattle.found_methods.specs.declared.own.Own.{Own}
use Rattle.found_methods.specs.Own.{IsOwn, IsLowest, LowestIs, LowestBelow, IsGroup, HoldsGroups, HoldsOwn}

-- ---- lists of numbers

at_last : {A : Type 0} (xs : List A) (x : A) → slice_get (xs ++ x ∷ []) (length xs) ≡ Some x
at_last [] x = refl
at_last (y ∷ xs) x = at_last xs x

-- one more at the end, above all before it
push_ascends : (xs : List ℕ) (x : ℕ) → ((y : ℕ) → Contains xs y → y < x) → IsStrictlyIncreasing xs → IsStrictlyIncreasing (xs ++ x ∷ [])
push_ascends xs x above ascends k lt = by (cases_lt (k + 1) (length xs))
  where
    long : length (xs ++ x ∷ []) ≡ length xs + 1
    long = length_push xs x

    by : (k + 1 < length xs) ⊎ (length xs ≤ k + 1) → get_or (xs ++ x ∷ []) k 0 < get_or (xs ++ x ∷ []) (k + 1) 0
    by (inl low) =
        let here : k < length xs = omega (arith, low) in
        rw (get_or_append_left xs (x ∷ []) 0 k here, get_or_append_left xs (x ∷ []) 0 (k + 1) low) (ascends k low)
    by (inr high) =
        let here : k < length xs = omega (arith, lt, long) in
        let last : k + 1 ≡ length xs = omega (arith, lt, long, high) in
        let item : get_or (xs ++ x ∷ []) (k + 1) 0 ≡ x = ap (λ i. get_or (xs ++ x ∷ []) i 0) last ∙ get_or_from_slice_get (xs ++ x ∷ []) (length xs) x 0 (at_last xs x) in
        rw (get_or_append_left xs (x ∷ []) 0 k here, item) (above (get_or xs k 0) (Contains-get_or xs k 0 here))

none_in : (n k : ℕ) (list : List ℕ) → slice_get (replicate n []) k ≡ Some list → list ≡ []
none_in zero k list is = absurd (cc is)
none_in (suc n) zero list is = let one : [] ≡ list = cc is in sym one
none_in (suc n) (suc k) list is = none_in n k list is

-- ---- a method has one label and one owner

module _ (w : World) (labels : List ℕ) where
  same_info : (k : ℕ) (i j : MethodInfo) → slice_get w.methods k ≡ Some i → slice_get w.methods k ≡ Some j → i ≡ j
  same_info k i j a b = cc (a, b)

  pub own_label : {l c d e : ℕ} (k : ℕ) → IsOwn w labels l c k → IsOwn w labels e d k → l ≡ e
  own_label k a b = let one = sym a.2 ∙ b.2 in cc one

  pub own_class : {l c d e : ℕ} (k : ℕ) → IsOwn w labels l c k → IsOwn w labels e d k → c ≡ d
  own_class k a b =
      let x = a.1 in
      let y = b.1 in
      sym x.2 ∙ ap (λ (i : MethodInfo). i.owner) (same_info k x.0 y.0 x.1.0 y.1.0) ∙ y.2

  pub own_within : {l c k : ℕ} → IsOwn w labels l c k → k < length w.methods
  own_within {k = k} a = let x = a.1 in slice_get_within w.methods k x.0 x.1.0

  pub lowest_same : {l c k j : ℕ} → IsLowest w labels l c k → IsLowest w labels l c j → k ≡ j
  lowest_same {k = k} {j = j} a b = elim (cases_lt k j) [
    | inl lt ↦ absurd (b.1 k lt a.0)
    | inr le ↦ elim (cases_lt j k) [ inl lt ↦ absurd (a.1 j lt b.0) | inr ge ↦ omega (arith, le, ge) ]
  ]

  -- ---- groups

  pub groups_begin : (groups : List (List ℕ)) (n : ℕ) → groups ≡ replicate n [] → n ≡ length w.methods → HoldsGroups w labels 0 groups
  groups_begin groups n are size = record {
    size = ap length are ∙ length-replicate n [] ∙ size;
    each = λ l c k list lowest is.
        let none : list ≡ [] = none_in n k list (sym (ap (λ xs. slice_get xs k) are) ∙ is) in
        record {
          each = λ j. (
            λ h. let has = subst (λ xs. Contains xs j) none h in absurd (let lt = has.1 in omega (arith, lt)),
            λ h. absurd (let lt = h.0 in omega (arith, lt)),
          );
          ascending = λ j lt. absurd (let short = ap length none in omega (arith, lt, short));
        };
  }

  -- a method that no class declares
  pub groups_skip : (m : ℕ) (groups : List (List ℕ)) → ((l c : ℕ) → IsOwn w labels l c m → ⊥) → HoldsGroups w labels m groups → HoldsGroups w labels (m + 1) groups
  groups_skip m groups none h = record {
    size = h.size;
    each = λ l c k list lowest is.
        let group = h.each l c k list lowest is in
        record {
          each = λ j. (
            λ has. let x = (group.each j).0 has in ((let lt = x.0 in omega (arith, lt)), x.1),
            λ x. elim (low_or_last j m x.0) [ inl low ↦ (group.each j).1 (low, x.1) | inr last ↦ absurd (none l c (subst (IsOwn w labels l c) last x.1)) ],
          );
          ascending = group.ascending;
        };
  }

  module _ (m l c k : ℕ) (groups : List (List ℕ)) (row : List ℕ) (own : IsOwn w labels l c m) (lowest : IsLowest w labels l c k) (h : HoldsGroups w labels m groups) (at : slice_get groups k ≡ Some row) where
    now : List (List ℕ)
    now = slice_set groups k (row ++ m ∷ [])

    this : IsGroup w labels m l c row
    this = h.each l c k row lowest at

    more : IsGroup w labels (m + 1) l c (row ++ m ∷ [])
    more = record {
      each = λ j. (
        λ has. elim (Contains-push_cases row m j has) [
          | inl was ↦ let x = (this.each j).0 was in ((let lt = x.0 in omega (arith, lt)), x.1)
          | inr same ↦ (omega (arith, same), subst (IsOwn w labels l c) same own)
        ],
        λ x. elim (low_or_last j m x.0) [
          | inl low ↦ Contains-append_left row (m ∷ []) j ((this.each j).1 (low, x.1))
          | inr last ↦ subst (Contains (row ++ m ∷ [])) (sym last) (Contains-push row m)
        ],
      );
      ascending = push_ascends row m (λ y has. ((this.each y).0 has).0) this.ascending;
    }

    others : (e d j : ℕ) (list : List ℕ) → IsLowest w labels e d j → slice_get groups j ≡ Some list → (k ≡ j → ⊥) → IsGroup w labels (m + 1) e d list
    others e d j list low is other =
        let group = h.each e d j list low is in
        record {
          each = λ x. (
            λ has. let y = (group.each x).0 has in ((let lt = y.0 in omega (arith, lt)), y.1),
            λ y. elim (low_or_last x m y.0) [
              | inl before ↦ (group.each x).1 (before, y.1)
              | inr last ↦
                  let its = subst (IsOwn w labels e d) last y.1 in
                  let label : l ≡ e = own_label m own its in
                  let class : c ≡ d = own_class m own its in
                  absurd (other (lowest_same (subst (λ n. IsLowest w labels e n k) class (subst (λ n. IsLowest w labels n c k) label lowest)) low))
            ],
          );
          ascending = group.ascending;
        }

    here : (e d : ℕ) (list : List ℕ) → IsLowest w labels e d k → slice_get now k ≡ Some list → IsGroup w labels (m + 1) e d list
    unfolding now
    here e d list low is =
        let one : Some (row ++ m ∷ []) ≡ Some list = sym (set_here groups k (row ++ m ∷ []) (slice_get_within groups k row at)) ∙ is in
        let same : row ++ m ∷ [] ≡ list = cc one in
        let label : l ≡ e = own_label k lowest.0 low.0 in
        let class : c ≡ d = own_class k lowest.0 low.0 in
        subst (IsGroup w labels (m + 1) e d) same (subst (λ n. IsGroup w labels (m + 1) e n (row ++ m ∷ [])) class (subst (λ n. IsGroup w labels (m + 1) n c (row ++ m ∷ [])) label more))

    pub groups_next : (new : List (List ℕ)) → new ≡ slice_set groups k (row ++ m ∷ []) → HoldsGroups w labels (m + 1) new
    unfolding now
    groups_next new are = subst (HoldsGroups w labels (m + 1)) (sym are) (record {
      size = length_set groups k (row ++ m ∷ []) ∙ h.size;
      each = λ e d j list low is. elim (same_or_other k j) [
        | inl same ↦ here e d list (subst (IsLowest w labels e d) (sym same) low) (ap (slice_get (slice_set groups k (row ++ m ∷ []))) same ∙ is)
        | inr other ↦ others e d j list low (sym (set_there groups k j (row ++ m ∷ []) other) ∙ is) other
      ];
    })

  -- ---- the lowest ones

  pub lowest_now : (m l c k : ℕ) (v : Option ℕ) → LowestBelow w labels m l c v → IsOwn w labels l c m → k ≡ unwrap_or v m → LowestBelow w labels (m + 1) l c (Some k)
  lowest_now m l c k None none own is = rw is (omega arith, (own, λ j lt. none j lt))
  lowest_now m l c k (Some x) h own is = rw is ((let lt = h.0 in omega (arith, lt)), h.1)

  lowest_kept : (m l c : ℕ) (v : Option ℕ) → LowestBelow w labels m l c v → (IsOwn w labels l c m → ⊥) → LowestBelow w labels (m + 1) l c v
  lowest_kept m l c None none not = λ k lt own. elim (low_or_last k m lt) [ inl low ↦ none k low own | inr last ↦ not (subst (IsOwn w labels l c) last own) ]
  lowest_kept m l c (Some x) h not = ((let lt = h.0 in omega (arith, lt)), h.1)

  pub lowest_next : (m l c k : ℕ) (old new : Rows) → ((e d : ℕ) → LowestBelow w labels m e d (value_at old d e)) → IsOwn w labels l c m → k ≡ unwrap_or (value_at old c l) m → IsWritten old new c l k
      → (e d : ℕ) → LowestBelow w labels (m + 1) e d (value_at new d e)
  lowest_next m l c k old new before own is written e d = elim (same_or_other d c) [
    | inl class ↦ elim (same_or_other e l) [
      | inl label ↦
          subst (λ n. LowestBelow w labels (m + 1) e n (value_at new n e)) (sym class)
          (subst (λ n. LowestBelow w labels (m + 1) n c (value_at new c n)) (sym label) (subst (LowestBelow w labels (m + 1) l c) (sym written.here) (lowest_now m l c k (value_at old c l) (before l c) own is)))
      | inr other ↦ stays (λ a b. other b) (λ its. other (own_label m its own))
    ]
    | inr other ↦ stays (λ a b. other a) (λ its. other (own_class m its own))
  ]
    where
      stays : (d ≡ c → e ≡ l → ⊥) → (IsOwn w labels e d m → ⊥) → LowestBelow w labels (m + 1) e d (value_at new d e)
      stays other not = subst (LowestBelow w labels (m + 1) e d) (sym (written.there d e other)) (lowest_kept m e d (value_at old d e) (before e d) not)

  -- ---- the whole

  pub own_skip : (m : ℕ) (own : Own) → ((l c : ℕ) → IsOwn w labels l c m → ⊥) → HoldsOwn w labels m own → HoldsOwn w labels (m + 1) own
  own_skip m own none h = record {
    rows = h.rows;
    keys = h.keys;
    lowest = λ l c. lowest_kept m l c (value_at own.table c l) (h.lowest l c) (none l c);
    groups = groups_skip m own.groups.items none h.groups;
  }

  pub lowest_all : (l c : ℕ) (v : Option ℕ) → LowestBelow w labels (length w.methods) l c v → LowestIs w labels l c v
  lowest_all l c None none = λ k own. none k (own_within own) own
  lowest_all l c (Some k) h = h.1

  pub owner_is : (m d : ℕ) (info : MethodInfo) → IsMethod w m info → DeclaresMethod w d m → info.owner ≡ d
  owner_is m d info is declared = ap (λ (i : MethodInfo). i.owner) (same_info m info declared.0 is.0 declared.1.0) ∙ declared.2

  pub own_next : (m l c k : ℕ) (old new : Own) (row : List ℕ) → HoldsOwn w labels m old → IsOwn w labels l c m → AreOfOneSize old.table new.table → k ≡ unwrap_or (value_at old.table c l) m
      → IsWritten old.table new.table c l k → slice_get old.groups.items k ≡ Some row → new.groups.items ≡ slice_set old.groups.items k (row ++ m ∷ []) → HoldsOwn w labels (m + 1) new
  own_next m l c k old new row h own size is written at groups = record {
    rows = size.rows ∙ h.rows;
    keys = size.keys ∙ h.keys;
    lowest = λ e d. lowest_next m l c k old.table new.table h.lowest own is written e d;
    groups = groups_next m l c k old.groups.items row own ((lowest_now m l c k (value_at old.table c l) (h.lowest l c) own is).1) h.groups at new.groups.items groups;
  }

  pub lowest_within : (m l c k : ℕ) (v : Option ℕ) → LowestBelow w labels m l c v → IsOwn w labels l c m → k ≡ unwrap_or v m → k < length w.methods
  lowest_within m l c k v h own is = own_within ((lowest_now m l c k v h own is).1.0)

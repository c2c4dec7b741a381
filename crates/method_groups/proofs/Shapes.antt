-- Constructors, put into the lists of their shapes.
use Rattle.std.proofs.Common.{◌≡◌, ℕ, ◌+◌, ◌<◌, ◌≤◌, Bool, true, false, cond, nat_eq, ◌&&◌, List, [], ◌∷◌, ◌++◌, Option, Some, None, ◌⊎◌, inl, inr, ◌↔◌, refl, sym, ap, ◌∙◌, subst, length, arith}
use Rattle.std.specs.Prelude.{slice_get, slice_set}
use Rattle.std.specs.List.{Contains}
use Rattle.std.specs.List.Sorted.{IsStrictlyIncreasing}
use Rattle.std.proofs.lemmas.Bool.{and_parts, eqb-true, eq-eqb}
use Rattle.std.proofs.lemmas.Option.{slice_get_within}
use Rattle.std.proofs.lemmas.List.Elements.{Contains-append_left, Contains-push, Contains-push_cases}
use Rattle.class_world.specs.declared.world.World.{World}
use Rattle.class_world.specs.declared.world.MethodInfo.{MethodInfo}
use Rattle.class_world.proofs.Ends.{at_last, at_first, first_or_end}
use Rattle.class_world.proofs.Words.{set_here, set_there, same_or_other}
use Rattle.method_groups.specs.declared.constructors.Shape.{Shape}
use Rattle.method_groups.specs.Constructors.{shape_of, same_shape, IsConstructor, IsListed, AreLists}
use Rattle.method_groups.specs.Groups.{HoldsConstructors}
use Rattle.method_groups.proofs.Firsts.{low_or_last, push_ascends}
use Rattle.method_groups.proofs.Beside.{one_info}

pub shape_told : (k q : Shape) → same_shape k q ≡ true → k ≡ q
shape_told k q e =
    let both = and_parts (nat_eq k.owner q.owner) (nat_eq k.arity q.arity) e in
    let owners = eqb-true k.owner q.owner both.0 in
    let arities = eqb-true k.arity q.arity both.1 in
    ap (λ x. (λ (r : Shape). r) (record { owner = x; arity = k.arity })) owners ∙ ap (λ x. (λ (r : Shape). r) (record { owner = q.owner; arity = x })) arities

shape_self : (q : Shape) → same_shape q q ≡ true
shape_self q =
    ap (λ x. x && nat_eq q.arity q.arity) (eq-eqb q.owner q.owner refl) ∙ eq-eqb q.arity q.arity refl

one_list : (lists : List (List ℕ)) (p : ℕ) (xs ys : List ℕ) → slice_get lists p ≡ Some xs → slice_get lists p ≡ Some ys → xs ≡ ys
one_list lists p xs ys at is = let both : Some xs ≡ Some ys = sym at ∙ is in cc both

one_place : (find : Shape → Option ℕ) (q : Shape) (p r : ℕ) → find q ≡ Some p → find q ≡ Some r → p ≡ r
one_place find q p r at is = let both : Some p ≡ Some r = sym at ∙ is in cc both

-- a list that grows
module _ (find : Shape → Option ℕ) (lists now : List (List ℕ)) (shape : Shape) (p m : ℕ) (row : List ℕ) (h : AreLists find lists) (above : (q : Shape) (k : ℕ) → IsListed find lists q k → k < m)
    (is : find shape ≡ Some p) (at : slice_get lists p ≡ Some row) (made : now ≡ slice_set lists p (row ++ m ∷ [])) where
  here : slice_get now p ≡ Some (row ++ m ∷ [])
  here = ap (λ l. slice_get l p) made ∙ set_here lists p (row ++ m ∷ []) (slice_get_within lists p row at)

  there : (r : ℕ) → (p ≡ r → ⊥) → slice_get now r ≡ slice_get lists r
  there r other = ap (λ l. slice_get l r) made ∙ set_there lists p r (row ++ m ∷ []) other

  list_here : (r : ℕ) (list : List ℕ) → p ≡ r → slice_get now r ≡ Some list → list ≡ row ++ m ∷ []
  list_here r list same e = one_list now r list (row ++ m ∷ []) e (ap (slice_get now) (sym same) ∙ here)

  pub lists_set : AreLists find now
  lists_set = record {
    there = λ q r e. elim (same_or_other p r) [
      | inl same ↦ (row ++ m ∷ [], ap (slice_get now) (sym same) ∙ here)
      | inr other ↦ let k = h.there q r e in (k.0, there r other ∙ k.1)
    ];
    ascending = λ r list e. elim (same_or_other p r) [
      | inl same ↦ subst IsStrictlyIncreasing (sym (list_here r list same e)) (push_ascends row m (λ y has. above shape y (p, row, is, at, has)) (h.ascending p row at))
      | inr other ↦ h.ascending r list (sym (there r other) ∙ e)
    ];
    single = h.single;
  }

  pub has_set : (q : Shape) (k : ℕ) → IsListed find now q k ↔ (IsListed find lists q k ⊎ ((q ≡ shape) × (k ≡ m)))
  has_set q k = (
    λ x. elim (same_or_other p x.0) [
      | inl same ↦
          let its = h.single q shape p (x.2 ∙ ap Some (sym same)) is in
          elim (Contains-push_cases row m k (subst (λ l. Contains l k) (list_here x.0 x.1 same x.3) x.4)) [
            | inl old ↦ inl (p, row, x.2 ∙ ap Some (sym same), at, old)
            | inr last ↦ inr (its, sym last)
          ]
      | inr other ↦ inl (x.0, x.1, x.2, sym (there x.0 other) ∙ x.3, x.4)
    ],
    λ x. elim x [
      | inl old ↦ elim (same_or_other p old.0) [
        | inl same ↦
            let list = one_list lists p old.1 row (ap (slice_get lists) same ∙ old.3) at in
            (p, row ++ m ∷ [], old.2 ∙ ap Some (sym same), here, Contains-append_left row (m ∷ []) k (subst (λ l. Contains l k) list old.4))
        | inr other ↦ (old.0, old.1, old.2, there old.0 other ∙ old.3, old.4)
      ]
      | inr its ↦ (p, row ++ m ∷ [], ap find its.0 ∙ is, here, subst (Contains (row ++ m ∷ [])) (sym its.1) (Contains-push row m))
    ],
  )

in_one : (m k : ℕ) → Contains (m ∷ []) k → k ≡ m
in_one m k h = elim (Contains-push_cases [] m k h) [ inl never ↦ let lt = never.1 in absurd (omega (arith, lt)) | inr same ↦ sym same ]

one_ascends : (m : ℕ) → IsStrictlyIncreasing (m ∷ [])
one_ascends m = push_ascends [] m (λ y has. let lt = has.1 in absurd (omega (arith, lt))) (λ k lt. absurd (omega (arith, lt)))

-- a list for a new shape
module _ (old find : Shape → Option ℕ) (lists now : List (List ℕ)) (shape : Shape) (p m : ℕ) (h : AreLists old lists) (none : old shape ≡ None) (place : p ≡ length lists)
    (puts : (q : Shape) → find q ≡ cond (same_shape shape q) (Some p) (old q)) (made : now ≡ lists ++ (m ∷ []) ∷ []) where
  new_cases : (q : Shape) (r : ℕ) → find q ≡ Some r → (old q ≡ Some r) ⊎ ((q ≡ shape) × (r ≡ p))
  new_cases q r e = go (same_shape shape q) refl
    where
      go : (b : Bool) → same_shape shape q ≡ b → (old q ≡ Some r) ⊎ ((q ≡ shape) × (r ≡ p))
      go true same =
          let both : Some r ≡ Some p = sym e ∙ puts q ∙ ap (λ b. cond b (Some p) (old q)) same in
          inr (sym (shape_told shape q same), cc both)
      go false other = inl (sym (puts q ∙ ap (λ b. cond b (Some p) (old q)) other) ∙ e)

  new_kept : (q : Shape) (r : ℕ) → old q ≡ Some r → find q ≡ Some r
  new_kept q r e = go (same_shape shape q) refl
    where
      go : (b : Bool) → same_shape shape q ≡ b → find q ≡ Some r
      go true same = let never : None ≡ Some r = sym none ∙ ap old (shape_told shape q same) ∙ e in absurd (cc never)
      go false other = puts q ∙ ap (λ b. cond b (Some p) (old q)) other ∙ e

  new_here : slice_get now p ≡ Some (m ∷ [])
  new_here = ap (slice_get now) place ∙ ap (λ l. slice_get l (length lists)) made ∙ at_last lists (m ∷ [])

  new_there : (r : ℕ) (list : List ℕ) → slice_get lists r ≡ Some list → slice_get now r ≡ Some list
  new_there r list e = ap (λ l. slice_get l r) made ∙ at_first lists (m ∷ []) list r e

  old_place : (q : Shape) (r : ℕ) → old q ≡ Some r → r < length lists
  old_place q r e = let k = h.there q r e in slice_get_within lists r k.0 k.1

  found : find shape ≡ Some p
  found = puts shape ∙ ap (λ b. cond b (Some p) (old shape)) (shape_self shape)

  pub lists_push : AreLists find now
  lists_push = record {
    there = λ q r e. elim (new_cases q r e) [
      | inl was ↦ let k = h.there q r was in (k.0, new_there r k.0 k.1)
      | inr here ↦ (m ∷ [], ap (slice_get now) here.1 ∙ new_here)
    ];
    ascending = λ r list e. elim (first_or_end lists (m ∷ []) list r (sym (ap (λ l. slice_get l r) made) ∙ e)) [
      | inl was ↦ h.ascending r list was
      | inr end ↦ subst IsStrictlyIncreasing (sym end.0) (one_ascends m)
    ];
    single = λ q r s e f. elim (new_cases q s e) [
      | inl one ↦ elim (new_cases r s f) [
        | inl two ↦ h.single q r s one two
        | inr two ↦ let lt = old_place q s one in let same = two.1 in absurd (omega (arith, lt, same, place))
      ]
      | inr one ↦ elim (new_cases r s f) [
        | inl two ↦ let lt = old_place r s two in let same = one.1 in absurd (omega (arith, lt, same, place))
        | inr two ↦ one.0 ∙ sym two.0
      ]
    ];
  }

  pub has_push : (q : Shape) (k : ℕ) → IsListed find now q k ↔ (IsListed old lists q k ⊎ ((q ≡ shape) × (k ≡ m)))
  has_push q k = (
    λ x. elim (new_cases q x.0 x.2) [
      | inl was ↦
          let row = h.there q x.0 was in
          let same = one_list now x.0 x.1 row.0 x.3 (new_there x.0 row.0 row.1) in
          inl (x.0, row.0, was, row.1, subst (λ l. Contains l k) same x.4)
      | inr here ↦ inr (here.0, in_one m k (subst (λ l. Contains l k) (one_list now x.0 x.1 (m ∷ []) x.3 (ap (slice_get now) here.1 ∙ new_here)) x.4))
    ],
    λ x. elim x [
      | inl was ↦ (was.0, was.1, new_kept q was.0 was.2, new_there was.0 was.1 was.3, was.4)
      | inr its ↦ (p, m ∷ [], ap find its.0 ∙ found, new_here, subst (Contains (m ∷ [])) (sym its.1) (Contains-push [] m))
    ],
  )

-- ---- all constructors

-- the lists have the constructors among the methods below i
abbrev pub AreBelow : World → (Shape → Option ℕ) → List (List ℕ) → ℕ → Type 0
AreBelow w find lists i = (q : Shape) (k : ℕ) → IsListed find lists q k ↔ ((k < i) × IsConstructor w q k)

pub shapes_none : (find : Shape → Option ℕ) → ((q : Shape) → find q ≡ None) → AreLists find []
shapes_none find none = record {
  there = λ q p e. let never : Some p ≡ None = sym e ∙ none q in absurd (cc never);
  ascending = λ p list e. let lt = slice_get_within [] p list e in absurd (omega (arith, lt));
  single = λ q r p e f. let never : Some p ≡ None = sym e ∙ none q in absurd (cc never);
}

pub below_none : (w : World) (find : Shape → Option ℕ) (lists : List (List ℕ)) → ((q : Shape) → find q ≡ None) → AreBelow w find lists 0
below_none w find lists none q k = (
  λ h. let never : Some h.0 ≡ None = sym h.2 ∙ none q in absurd (cc never),
  λ h. let lt = h.0 in absurd (omega (arith, lt)),
)

module _ (w : World) (find : Shape → Option ℕ) (lists : List (List ℕ)) (i : ℕ) (info : MethodInfo) (h : AreBelow w find lists i) (at : slice_get w.methods i ≡ Some info) where
  pub below_skip : info.constructor ≡ false → AreBelow w find lists (i + 1)
  below_skip plain q k = (
    λ x. let o = (h q k).0 x in ((let lt = o.0 in omega (arith, lt)), o.1),
    λ o. elim (low_or_last k i o.0) [
      | inl lt ↦ (h q k).1 (lt, o.1)
      | inr last ↦
          let is = one_info w i o.1.0 info (ap (slice_get w.methods) (sym last) ∙ o.1.1) at in
          let never : true ≡ false = sym o.1.2 ∙ ap (λ (x : MethodInfo). x.constructor) is ∙ plain in
          absurd (cc never)
    ],
  )

  pub below_next : (new : Shape → Option ℕ) (now : List (List ℕ)) (shape : Shape) → info.constructor ≡ true → shape ≡ shape_of info
      → ((q : Shape) (k : ℕ) → IsListed new now q k ↔ (IsListed find lists q k ⊎ ((q ≡ shape) × (k ≡ i)))) → AreBelow w new now (i + 1)
  below_next new now shape makes its adds q k = (
    λ x. elim ((adds q k).0 x) [
      | inl was ↦ let o = (h q k).0 was in ((let lt = o.0 in omega (arith, lt)), o.1)
      | inr here ↦ ((let e = here.1 in omega (arith, e)), (info, ap (slice_get w.methods) here.1 ∙ at, makes, sym (here.0 ∙ its)))
    ],
    λ o. (adds q k).1 (elim (low_or_last k i o.0) [
      | inl lt ↦ inl ((h q k).1 (lt, o.1))
      | inr last ↦
          let is = one_info w i o.1.0 info (ap (slice_get w.methods) (sym last) ∙ o.1.1) at in
          inr (sym o.1.3 ∙ ap shape_of is ∙ sym its, last)
    ]),
  )

pub below_all : (w : World) (find : Shape → Option ℕ) (lists : List (List ℕ)) (i : ℕ) → length w.methods ≤ i → AreLists find lists → AreBelow w find lists i → HoldsConstructors w find lists
below_all w find lists i full fine h q m is =
    let lt = slice_get_within w.methods m is.0 is.1 in
    let x = (h q m).1 (omega (arith, lt, full), is) in (
      x.0,
      x.2,
      record {
        list = x.1;
        at = x.3;
        has = λ k. (
          λ has. ((h q k).0 (x.0, x.1, x.2, x.3, has)).1,
          λ its.
              let low = slice_get_within w.methods k its.0 its.1 in
              let y = (h q k).1 (omega (arith, low, full), its) in
              let same = one_place find q y.0 x.0 y.2 x.2 in
              subst (λ l. Contains l k) (one_list lists x.0 y.1 x.1 (ap (slice_get lists) (sym same) ∙ y.3) x.3) y.4,
        );
        ascending = fine.ascending x.0 x.1 x.3;
      },
    )

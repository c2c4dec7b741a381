-- Class types without arguments beside other results, and what the unchecked conversion (JLS 5.1.9) does for them.
use Rattle.std.proofs.Common.{◌≡◌, ℕ, ◌+◌, ◌<◌, ◌≤◌, false, true, not, Bool, List, [], ◌∷◌, Option, None, Some, ◌⊎◌, inl, inr, ◌↔◌, IsTrue, Result, Ok, Err, IfOk, refl, sym, ap, ◌∙◌, subst, length, arith}
use Rattle.std.specs.Prelude.{slice_get}
use Rattle.std.specs.List.{Contains}
use Rattle.class_world.specs.declared.world.World.{World}
use Rattle.class_world.specs.declared.world.JavaType.{JavaType}
use Rattle.class_world.specs.declared.world.JavaType.TheVariants as ty
use Rattle.class_world.specs.Types.{IsReference, of_class, of_variable, of_array, IsTypeOver}
use Rattle.class_world.specs.Subtypes as order
use Rattle.class_world.specs.Subtypes.{Subtype, IsUnchecked}
use Rattle.class_world.specs.Sound.{HaveClassSupers, IsOfWorld, IsSound}
use Rattle.class_world.specs.Climbs.{IsGeneric}
use Rattle.class_world.proofs.Forms.{same_class}
use Rattle.class_world.proofs.Orders.{class_above, class_parts, class_supers}
use Rattle.class_world.proofs.Lifts as lifts
use Rattle.class_world.proofs.Bases.{IsFull, full_base}
use Rattle.class_world.proofs.Decides.{UnderObject, array_under, variable_under}
use Rattle.method_ties.proofs.Firsts.{at_contains, contains_at}
use Rattle.inherited_rules.specs.declared.chain.Results.{Results}
use Rattle.inherited_rules.specs.Rules.{FitsResult}
use Rattle.inherited_rules.specs.Parts.{IsResult, IsUnlike}
use Rattle.inherited_rules.specs.Chains.{AreKept, HasUnlike, IsAdded, IsAmong, IsAnyUnlike, IsBare, IsBelow, IsChain, IsChainOf, IsFirstAbove, IsFirstNotBelow, IsOther, IsPut, IsUnlikeOne}
use Rattle.inherited_rules.proofs.Chained.{below_fits, chain_like, chain_up, low_or_high}

some_items : (xs : List JavaType) (n : ℕ) → (xs ≡ [] → ⊥) → length xs ≡ n → 0 < n
some_items [] n some e = absurd (some refl)
some_items (x ∷ xs) n some e = omega (arith, e)

pub not_told : (told : Bool) → (IsTrue told → ⊥) → IsTrue (not told)
not_told true none = absurd (none refl)
not_told false none = refl

-- a result above a type is a type above it
below_type : (w : World) (r q : Option JavaType) (t : JavaType) → r ≡ Some t → IsBelow w r q → (v : JavaType) × (q ≡ Some v) × Subtype w t v
below_type w None q t e h = absurd (cc e)
below_type w (Some s) None t e h = absurd h
below_type w (Some s) (Some v) t e h =
    let is : s ≡ t = cc e in
    (v, refl, subst (λ x. Subtype w x v) is (elim h [ inl same ↦ subst (Subtype w s) same order.same | inr up ↦ up.2 ]))

-- what fits and is not below fits by an unchecked conversion
unchecked_alone : (w : World) (r q : Option JavaType) (s : JavaType) → r ≡ Some s → FitsResult w r q → (IsBelow w r q → ⊥) → (t : JavaType) × (q ≡ Some t) × IsUnchecked w s t
unchecked_alone w None q s e fits not = absurd (cc e)
unchecked_alone w (Some x) None s e fits not = absurd fits
unchecked_alone w (Some x) (Some t) s e fits not =
    let is : x ≡ s = cc e in
    elim fits [
      | inl same ↦ absurd (not (inl same))
      | inr h ↦ elim h.2 [ inl up ↦ absurd (not (inr (h.0, h.1, up))) | inr free ↦ (t, refl, subst (λ x. IsUnchecked w x t) is free) ]
    ]

-- nothing fits a class type without arguments by an unchecked conversion
fits_bare : (w : World) (r q : Option JavaType) → IsBare q → FitsResult w r q → IsBelow w r q
fits_bare w None None bare fits = tt
fits_bare w None (Some t) bare fits = absurd fits
fits_bare w (Some s) None bare fits = absurd fits
fits_bare w (Some s) (Some t) bare fits = elim fits [
  | inl same ↦ inl same
  | inr h ↦ elim h.2 [
    | inl up ↦ inr (h.0, h.1, up)
    | inr free ↦
        let is : t ≡ ty.Class bare.0 [] = let both = bare.1 in cc both in
        absurd (free.1.2 (same_class free.0 bare.0 free.1.0 [] (sym free.1.1 ∙ is)).1)
  ]
]

module _ (w : World) (sound : IsSound w) where
  sups : HaveClassSupers w
  sups = class_supers w sound.declared

  -- a class with arguments has them all, and is generic
  full_class : (n g : ℕ) (xs : List JavaType) → IsTypeOver w n (ty.Class g xs) → (xs ≡ [] → ⊥) → IsFull w g xs
  full_class n g xs over some =
      let parts = class_parts w n (ty.Class g xs) g xs over refl in
      (parts.0, parts.1, elim parts.2 [ inl none ↦ absurd (some none) | inr count ↦ count ])

  generic_class : (n g : ℕ) (xs : List JavaType) → IsTypeOver w n (ty.Class g xs) → (xs ≡ [] → ⊥) → IsGeneric w g
  generic_class n g xs over some = let full = full_class n g xs over some in (full.0, full.1, some_items xs full.0.params some full.2)

  -- the class of which t is a parameterization
  unchecked_generic : (s t : JavaType) → IsOfWorld w t → (free : IsUnchecked w s t) → IsGeneric w free.0
  unchecked_generic s t of_t free = generic_class of_t.0 free.0 free.1.0 (subst (IsTypeOver w of_t.0) free.1.1 of_t.1) free.1.2

  -- a type above which Object is the one class fits nothing by an unchecked conversion
  object_free : (s t : JavaType) → UnderObject w sound s → IsOfWorld w t → IsUnchecked w s t → ⊥
  object_free s t under of_t free =
      let generic = unchecked_generic s t of_t free in
      let is : free.0 ≡ 0 = (same_class free.0 0 [] [] (under free.0 [] free.2)).0 in
      let none = (sound.declared.top generic.0 (ap (slice_get w.types) (sym is) ∙ generic.1)).0 in
      let some = generic.2 in
      absurd (omega (arith, none, some))

  -- a reference type, but for a class type without arguments, fits nothing by an unchecked conversion
  other_free : (s t : JavaType) → IsReference s → IsOfWorld w s → IsOfWorld w t → (IsBare (Some s) → ⊥) → IsUnchecked w s t → ⊥
  other_free s t (of_class c xs) of_s of_t other free =
      let full = full_class of_s.0 c xs of_s.1 (λ none. other (c, ap (λ xs. Some (ty.Class c xs)) none)) in
      let base = full_base w sound.declared c free.0 xs full (unchecked_generic s t of_t free) free.2 in
      free.3 base.0 base.1 base.2
  other_free s t (of_variable k) of_s of_t other free = object_free s t (variable_under w sound s k refl) of_t free
  other_free s t (of_array x) of_s of_t other free = object_free s t (array_under w sound s x refl) of_t free

  -- so between two results that are no class types without arguments subtypes alone fit
  fits_other : (r q : Option JavaType) → IsResult w r → IsResult w q → IsOther r → FitsResult w r q → IsBelow w r q
  fits_other None None of_r of_q other fits = tt
  fits_other None (Some t) of_r of_q other fits = absurd fits
  fits_other (Some s) None of_r of_q other fits = absurd fits
  fits_other (Some s) (Some t) of_r of_q other fits = elim fits [
    | inl same ↦ inl same
    | inr h ↦ elim h.2 [ inl up ↦ inr (h.0, h.1, up) | inr free ↦ absurd (other_free s t h.0 of_r of_q other free) ]
  ]

  -- ---- results kept by their sorts

  -- what follows from what is told
  pub told_on : {A E : Type 0} (P Q : A → Type 0) (told : Result A E) → ((a : A) → P a → Q a) → IfOk told P → IfOk told Q
  told_on P Q (Ok a) on h = on a h
  told_on P Q (Err e) on h = tt

  -- a chain stays one of its sort
  sort_put : (Sort : Option JavaType → Type 0) (old new : List (Option JavaType)) (r : Option JavaType) → IsChainOf w Sort old → IsResult w r → Sort r → IsChain w new × ((q : Option JavaType) → Contains new q ↔ (Contains old q ⊎ (q ≡ r)))
      → IsChainOf w Sort new
  sort_put Sort old new r kept is sort put = record {
    chain = put.0;
    types = λ q h. elim ((put.1 q).0 h) [ inl was ↦ kept.types q was | inr same ↦ subst (IsResult w) (sym same) is ];
    sort = λ q h. elim ((put.1 q).0 h) [ inl was ↦ kept.sort q was | inr same ↦ subst Sort (sym same) sort ];
  }

  pub added_bare : (old new : Results) (r : Option JavaType) (u : Bool) → AreKept w old → IsResult w r → IsBare r → new.others ≡ old.others → IsPut w old.bare.items new.bare.items r u → IsAdded w old new r u
  added_bare old new r u kept is bare same put = (
    λ h.
        let found = put.0 h in
        (found.0, inl found.1, (λ fits. found.2.0 (fits_bare w r found.0 (kept.bare.sort found.0 found.1) fits), λ fits. found.2.1 (fits_bare w found.0 r bare fits))),
    λ none.
        let new_bare = put.1 none in
        let stays = ap (λ v. v.items) same in (
          record { bare = sort_put IsBare old.bare.items new.bare.items r kept.bare is bare new_bare; others = subst (IsChainOf w IsOther) (sym stays) kept.others },
          λ q. (
            λ h. elim h [
              | inl in_bare ↦ elim ((new_bare.1 q).0 in_bare) [ inl was ↦ inl (inl was) | inr is_r ↦ inr is_r ]
              | inr other ↦ inl (inr (subst (λ l. Contains l q) stays other))
            ],
            λ h. elim h [
              | inl (inl in_bare) ↦ inl ((new_bare.1 q).1 (inl in_bare))
              | inl (inr other) ↦ inr (subst (λ l. Contains l q) (sym stays) other)
              | inr is_r ↦ inl ((new_bare.1 q).1 (inr is_r))
            ],
          ),
        ),
  )

  pub added_other : (old new : Results) (r : Option JavaType) (u : Bool) → AreKept w old → IsResult w r → IsOther r → new.bare ≡ old.bare → IsPut w old.others.items new.others.items r u → IsAdded w old new r u
  added_other old new r u kept is other same put = (
    λ h.
        let found = put.0 h in
        let is_q = kept.others.types found.0 found.1 in
        (found.0, inr found.1, (λ fits. found.2.0 (fits_other r found.0 is is_q other fits), λ fits. found.2.1 (fits_other found.0 r is_q is (kept.others.sort found.0 found.1) fits))),
    λ none.
        let new_others = put.1 none in
        let stays = ap (λ v. v.items) same in (
          record { bare = subst (IsChainOf w IsBare) (sym stays) kept.bare; others = sort_put IsOther old.others.items new.others.items r kept.others is other new_others },
          λ q. (
            λ h. elim h [
              | inl in_bare ↦ inl (inl (subst (λ l. Contains l q) stays in_bare))
              | inr in_others ↦ elim ((new_others.1 q).0 in_others) [ inl was ↦ inl (inr was) | inr is_r ↦ inr is_r ]
            ],
            λ h. elim h [
              | inl (inl in_bare) ↦ inl (subst (λ l. Contains l q) (sym stays) in_bare)
              | inl (inr in_others) ↦ inr ((new_others.1 q).1 (inl in_others))
              | inr is_r ↦ inr ((new_others.1 q).1 (inr is_r))
            ],
          ),
        ),
  )

  -- two that are unlike are of the two sorts
  pub unlike_sorts : (t : Results) → AreKept w t → HasUnlike w t ↔ IsAnyUnlike w t.bare.items t.others.items
  unlike_sorts t kept = (λ h. apart h.0 h.1 h.2 h.3 h.4, λ h. (h.0, h.2.0, inl h.1, inr h.2.1, h.2.2))
    where
      apart : (r q : Option JavaType) → IsAmong t r → IsAmong t q → IsUnlike w r q → IsAnyUnlike w t.bare.items t.others.items
      apart r q (inl a) (inl b) unlike = absurd (chain_like w t.bare.items kept.bare.chain r q a b unlike)
      apart r q (inl a) (inr b) unlike = (r, a, (q, b, unlike))
      apart r q (inr a) (inl b) unlike = (q, b, (r, a, (unlike.1, unlike.0)))
      apart r q (inr a) (inr b) unlike = absurd (chain_like w t.others.items kept.others.chain r q a b unlike)

  -- ---- a class type without arguments against a chain of others

  -- where it fits one of them and one above that, it fits one between
  unchecked_between : (c : ℕ) (t v z : JavaType) → IsOfWorld w (ty.Class c []) → IsOfWorld w t → IsOfWorld w z → (IsBare (Some v) → ⊥) → Subtype w t v → Subtype w v z
      → IsUnchecked w (ty.Class c []) t → IsUnchecked w (ty.Class c []) z → IsUnchecked w (ty.Class c []) v
  unchecked_between c t v z of_s of_t of_z other up_t up_v low high =
      let g = low.0 in
      let h = high.0 in
      let class = (class_above w sups of_t.0 t v up_t g low.1.0 low.1.1 of_t.1).0 in
      let k = class.0 in
      let ys = class.1 in
      let some : ys ≡ [] → ⊥ = λ none. other (k, ap Some (class.2 ∙ ap (λ ys. ty.Class k ys) none)) in
      let to_k : Subtype w (ty.Class g []) (ty.Class k []) = lifts.bare w sups g k low.1.0 ys (subst (λ x. Subtype w x (ty.Class k ys)) low.1.1 (subst (Subtype w t) class.2 up_t)) in
      let to_h : Subtype w (ty.Class k []) (ty.Class h []) = lifts.bare w sups k h ys high.1.0 (subst (λ x. Subtype w x (ty.Class h high.1.0)) class.2 (subst (Subtype w v) high.1.1 up_v)) in (
        k,
        (ys, class.2, some),
        order.through low.2 to_k,
        λ u is up.
            let of_u = (class_above w sups of_s.0 (ty.Class c []) u up c [] refl of_s.1).1 in
            let full = full_class of_s.0 k is.0 (subst (IsTypeOver w of_s.0) is.1 of_u) is.2 in
            let base = full_base w sound.declared k h is.0 full (unchecked_generic (ty.Class c []) z of_z high) (lifts.bare_alike w sups k h [] is.0 to_h) in
            high.3 base.0 base.1 (order.through up (subst (λ x. Subtype w x base.0) (sym is.1) base.2)),
      )

  fits_unchecked : (c : ℕ) (t : JavaType) → IsUnchecked w (ty.Class c []) t → FitsResult w (Some (ty.Class c [])) (Some t)
  fits_unchecked c t free = inr (of_class c [], subst IsReference (sym free.1.1) (of_class free.0 free.1.0), inr free)

  fits_between : (r a n b : Option JavaType) → IsBare r → IsResult w r → IsResult w a → IsResult w b → IsOther n → IsBelow w a n → IsBelow w n b
      → FitsResult w r a → (IsBelow w r a → ⊥) → FitsResult w r b → (IsBelow w r b → ⊥) → FitsResult w r n
  fits_between r a n b bare of_r of_a of_b other up_a up_n fits_a not_a fits_b not_b =
      let s = ty.Class bare.0 [] in
      let t = unchecked_alone w r a s bare.1 fits_a not_a in
      let z = unchecked_alone w r b s bare.1 fits_b not_b in
      let v = below_type w a n t.0 t.1 up_a in
      let x = below_type w n b v.0 v.1 up_n in
      let both : Some x.0 ≡ Some z.0 = sym x.1 ∙ z.1 in
      let same : x.0 ≡ z.0 = cc both in
      let free = unchecked_between bare.0 t.0 v.0 z.0 (subst (IsResult w) bare.1 of_r) (subst (IsResult w) t.1 of_a) (subst (IsResult w) z.1 of_b) (subst IsOther v.1 other) v.2 (subst (Subtype w v.0) same x.2) t.2 z.2 in
      subst (FitsResult w r) (sym v.1) (subst (λ r. FitsResult w r (Some v.0)) (sym bare.1) (fits_unchecked bare.0 v.0 free))

  module _ (r : Option JavaType) (xs : List (Option JavaType)) (start end : ℕ) (of_r : IsResult w r) (bare : IsBare r) (kept : IsChainOf w IsOther xs) (from : IsFirstNotBelow w xs r start) (to : IsFirstAbove w xs r end) where
    -- one that is neither below it nor above it, and that it does not fit
    pub unlike_inside : (k : ℕ) (q : Option JavaType) → start ≤ k → slice_get xs k ≡ Some q → (FitsResult w r q → ⊥) → IsUnlikeOne w r xs
    unlike_inside k q le at none = (q, at_contains xs k q at, (none, λ fits. from.after k q le at (fits_bare w q r bare fits)))

    -- it is like each, if like those that are neither below it nor above it
    like_all : ((k : ℕ) (q : Option JavaType) → start ≤ k → k < end → slice_get xs k ≡ Some q → FitsResult w r q) → IsUnlikeOne w r xs → ⊥
    like_all fits h =
        let at = contains_at xs h.0 h.1 in
        elim (low_or_high at.0 start) [
          | inl low ↦ h.2.1 (below_fits w h.0 r (from.before at.0 h.0 low at.1))
          | inr le ↦ elim (low_or_high at.0 end) [
            | inl lt ↦ h.2.0 (fits at.0 h.0 le lt at.1)
            | inr high ↦ h.2.0 (below_fits w r h.0 (to.after at.0 h.0 high at.1))
          ]
        ]

    pub like_none_between : end ≤ start → IsUnlikeOne w r xs → ⊥
    like_none_between none = like_all (λ k q le lt. absurd (omega (arith, none, le, lt)))

    pub like_between : (last : ℕ) (a b : Option JavaType) → end ≡ last + 1 → slice_get xs start ≡ Some a → slice_get xs last ≡ Some b → start ≤ last → FitsResult w r a → FitsResult w r b
        → IsUnlikeOne w r xs → ⊥
    like_between last a b is at_a at_b up fits_a fits_b = like_all (λ k q le lt at.
        fits_between r a q b bare of_r (kept.types a (at_contains xs start a at_a)) (kept.types b (at_contains xs last b at_b)) (kept.sort q (at_contains xs k q at)) (chain_up w xs kept.chain start k a q le at_a at)
        (chain_up w xs kept.chain k last q b (omega (arith, lt, is)) at at_b) fits_a (to.before start a (omega (arith, up, is)) at_a) fits_b (to.before last b (omega (arith, is)) at_b))

-- Lists of class types where the last of each class is at its place.
use Rattle.std.proofs.Common.{◌≡◌, ℕ, ◌<◌, true, false, List, [], ◌∷◌, ◌++◌, Some, ◌⊎◌, inl, inr, refl, sym, ap, ◌∙◌, subst, length, arith}
use Rattle.std.specs.Prelude.{slice_get, slice_set, ◌==◌}
use Rattle.std.proofs.Math.Dec.{eqb-suc-zero}
use Rattle.std.proofs.lemmas.Option.{slice_get_within}
use Rattle.class_world.specs.declared.world.JavaType.{JavaType}
use Rattle.class_world.specs.declared.world.JavaType.TheVariants as ty
use Rattle.class_world.specs.Merged.{IsListed, AreSingle, ClashOne, IsCovered, IsPlaced, HasPlaces, Takes}
use Rattle.class_world.proofs.Forms.{same_class}
use Rattle.class_world.proofs.Words.{set_here, set_there, same_or_other}
use Rattle.class_world.proofs.Ends.{at_last, at_first, first_or_last, first_or_end}

-- what a test for an empty list says

pub empty_yes : {A : Type 0} (xs : List A) → true ≡ (length xs == 0) → xs ≡ []
empty_yes [] e = refl
empty_yes (x ∷ xs) e = let not_none : (length (x ∷ xs) == 0) ≡ false = eqb-suc-zero (length xs) in absurd (cc (e, not_none))

pub empty_no : {A : Type 0} (xs : List A) → false ≡ (length xs == 0) → xs ≡ [] → ⊥
empty_no [] e none = absurd (cc e)
empty_no (x ∷ xs) e none = cc none

-- the last type of the class h is at its place, and it covers the one with the arguments zs
abbrev HasLast : List JavaType → List ℕ → ℕ → List JavaType → Type 0
HasLast ts places h zs = (ys : List JavaType) × IsPlaced ts places h (ty.Class h ys) × ((zs ≡ []) ⊎ (zs ≡ ys))

pub no_places : (places : List ℕ) → HasPlaces [] places
no_places places = record { last = λ k g xs at. absurd (cc at); twice = λ j k g xs ys lt at at'. absurd (cc at) }

-- a type of the class g that comes last, where no type of g with arguments is listed
pub placed_last : (ts : List JavaType) (places : List ℕ) (g : ℕ) (xs : List JavaType) → HasPlaces ts places → g < length places
    → ((k : ℕ) (ys : List JavaType) → slice_get ts k ≡ Some (ty.Class g ys) → (ys ≡ []) × (xs ≡ [] → ⊥)) → HasPlaces (ts ++ ty.Class g xs ∷ []) (slice_set places g (length ts))
placed_last ts places g xs has lt before = record {
  last = λ k h zs at. elim (same_or_other g h) [
    | inl e ↦ subst (λ h. HasLast (ts ++ ty.Class g xs ∷ []) (slice_set places g (length ts)) h zs) e (here k zs (at ∙ ap (λ h. Some (ty.Class h zs)) (sym e)))
    | inr other ↦ elim (first_or_end ts (ty.Class g xs) (ty.Class h zs) k at) [
      | inl old ↦
          let was = has.last k h zs old in
          (was.0, (was.1.0, was.1.1, set_there places g h (length ts) other ∙ was.1.2, at_first ts (ty.Class g xs) (ty.Class h was.0) was.1.0 was.1.3, was.1.4), was.2)
      | inr new ↦ absurd (other (sym (same_class h g zs xs new.0).0))
    ]
  ];
  twice = λ j k h ys zs less at_j at_k. elim (first_or_end ts (ty.Class g xs) (ty.Class h zs) k at_k) [
    | inl old_k ↦ elim (first_or_end ts (ty.Class g xs) (ty.Class h ys) j at_j) [
      | inl old_j ↦ has.twice j k h ys zs less old_j old_k
      | inr new_j ↦ let within = slice_get_within ts k (ty.Class h zs) old_k in absurd (omega (arith, within, new_j.1, less))
    ]
    | inr new_k ↦ elim (first_or_end ts (ty.Class g xs) (ty.Class h ys) j at_j) [
      | inl old_j ↦
          let is = same_class h g zs xs new_k.0 in
          let first = before j ys (old_j ∙ ap (λ h. Some (ty.Class h ys)) is.0) in
          (first.0, λ none. first.1 (sym is.1 ∙ none))
      | inr new_j ↦ absurd (omega (arith, new_k.1, new_j.1, less))
    ]
  ];
}
  where
    here : (k : ℕ) (zs : List JavaType) → slice_get (ts ++ ty.Class g xs ∷ []) k ≡ Some (ty.Class g zs) → HasLast (ts ++ ty.Class g xs ∷ []) (slice_set places g (length ts)) g zs
    here k zs at = (
      xs,
      (length ts, xs, set_here places g (length ts) lt, at_last ts (ty.Class g xs), refl),
      elim (first_or_end ts (ty.Class g xs) (ty.Class g zs) k at) [
        | inl old ↦ inl (before k zs old).0
        | inr new ↦ inr (same_class g g zs xs new.0).1
      ],
    )

module _ (ts : List JavaType) (places : List ℕ) (g : ℕ) (xs : List JavaType) (t : JavaType) (is : t ≡ ty.Class g xs) (has : HasPlaces ts places) where
  -- where none is at the place of g
  pub placed_new : ((u : JavaType) → IsPlaced ts places g u → ⊥) → g < length places → HasPlaces (ts ++ t ∷ []) (slice_set places g (length ts))
  placed_new none lt =
      subst (λ t. HasPlaces (ts ++ t ∷ []) (slice_set places g (length ts))) (sym is)
      (placed_last ts places g xs has lt (λ k ys at. let l = has.last k g ys at in absurd (none (ty.Class g l.0) l.1)))

  -- where the one without arguments is
  pub placed_again : (u : JavaType) → IsPlaced ts places g u → (us : List JavaType) → u ≡ ty.Class g us → us ≡ [] → (xs ≡ [] → ⊥) → g < length places → HasPlaces (ts ++ t ∷ []) (slice_set places g (length ts))
  placed_again u there us shape none some lt =
      subst (λ t. HasPlaces (ts ++ t ∷ []) (slice_set places g (length ts))) (sym is)
      (placed_last ts places g xs has lt (λ k ys at.
      let l = has.last k g ys at in
      let place : l.1.0 ≡ there.0 = cc (l.1.2, there.2) in
      let alike : ty.Class g l.0 ≡ u = cc (l.1.3, ap (slice_get ts) place ∙ there.3) in
      let bare : l.0 ≡ [] = (same_class g g l.0 us (alike ∙ shape)).1 ∙ none in
      (elim l.2 [ inl e ↦ e | inr e ↦ e ∙ bare ], some)))

  pub covered_bare : (u : JavaType) → IsPlaced ts places g u → xs ≡ [] → IsCovered ts t
  covered_bare u there none = (g, xs, there.1, is, (there.0, there.3 ∙ ap (λ u. Some u) there.4), inl none)

  pub covered_same : (u : JavaType) → IsPlaced ts places g u → u ≡ t → IsCovered ts t
  covered_same u there alike = (g, xs, xs, is, (there.0, there.3 ∙ ap (λ u. Some u) (alike ∙ is)), inr refl)

  pub other_there : (u : JavaType) → IsPlaced ts places g u → (us : List JavaType) → u ≡ ty.Class g us → (us ≡ [] → ⊥) → (xs ≡ [] → ⊥) → (u ≡ t → ⊥) → ClashOne ts t
  other_there u there us shape some_u some other = (g, u, (xs, is, some), (us, shape, some_u), (there.0, there.3), other)

pub one_placed : (g : ℕ) (xs : List JavaType) (t : JavaType) (places : List ℕ) → t ≡ ty.Class g xs → g < length places → HasPlaces (t ∷ []) (slice_set places g 0)
one_placed g xs t places is lt = placed_new [] places g xs t is (no_places places) (λ u there. absurd (cc there.3)) lt

-- what is listed after a type is taken

module _ (old new : List JavaType) (t : JavaType) (takes : Takes old new t) where
  pub taken_kept : (k : ℕ) (u : JavaType) → slice_get old k ≡ Some u → slice_get new k ≡ Some u
  taken_kept k u at = elim takes [ inl same ↦ ap (λ ts. slice_get ts k) same.0 ∙ at | inr made ↦ ap (λ ts. slice_get ts k) made ∙ at_first old t u k at ]

  pub taken_only : (u : JavaType) → IsListed new u → IsListed old u ⊎ (u ≡ t)
  taken_only u h = elim takes [
    | inl same ↦ inl (h.0, ap (λ ts. slice_get ts h.0) (sym same.0) ∙ h.1)
    | inr made ↦ elim (first_or_last old t u h.0 (ap (λ ts. slice_get ts h.0) (sym made) ∙ h.1)) [ inl was ↦ inl (h.0, was) | inr last ↦ inr last ]
  ]

  pub taken_covered : (g : ℕ) (xs : List JavaType) → t ≡ ty.Class g xs → IsCovered new t
  taken_covered g xs is = elim takes [
    | inl same ↦ subst (λ ts. IsCovered ts t) (sym same.0) same.1
    | inr made ↦ (g, xs, xs, is, (length old, ap (λ ts. slice_get ts (length old)) made ∙ at_last old t ∙ ap (λ u. Some u) is), inr refl)
  ]

-- two parameterizations of one class that are listed are the same
pub placed_single : (ts : List JavaType) (places : List ℕ) → HasPlaces ts places → AreSingle ts
placed_single ts places has g t u is_t is_u in_t in_u =
    let a = has.last in_t.0 g is_t.0 (in_t.1 ∙ ap (λ t. Some t) is_t.1) in
    let b = has.last in_u.0 g is_u.0 (in_u.1 ∙ ap (λ t. Some t) is_u.1) in
    let place : a.1.0 ≡ b.1.0 = cc (a.1.2, b.1.2) in
    let alike : ty.Class g a.0 ≡ ty.Class g b.0 = cc (a.1.3, ap (slice_get ts) place ∙ b.1.3) in
    elim a.2 [
      | inl none ↦ absurd (is_t.2 none)
      | inr same_a ↦ elim b.2 [
        | inl none ↦ absurd (is_u.2 none)
        | inr same_b ↦ is_t.1 ∙ ap (λ xs. ty.Class g xs) same_a ∙ alike ∙ ap (λ xs. ty.Class g xs) (sym same_b) ∙ sym is_u.1
      ]
    ]

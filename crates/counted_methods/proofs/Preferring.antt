-- The order of preference.
use Rattle.std.proofs.Common.{◌≡◌, ℕ, List, Option, Some, None, Bool, true, false, ◌⊎◌, inl, inr, ◌↔◌, refl, sym, ap, ◌∙◌, subst, arith}
use Rattle.std.specs.Prelude.{slice_get}
use Rattle.std.specs.List.{Contains}
use Rattle.std.proofs.lemmas.Bool.{cases_lt}
use Rattle.class_world.specs.declared.world.World.{World}
use Rattle.class_world.specs.declared.world.TypeInfo.{TypeInfo}
use Rattle.class_world.specs.declared.world.MethodInfo.{MethodInfo}
use Rattle.class_world.specs.Overriding.{IsClass}
use Rattle.class_world.specs.Counted.{IsOfClass, IsPreferred, from_superclass, of_class, declared_first}
use Rattle.counted_methods.proofs.Firsts.{contains_or_not}

both_through : {A B C : Type 0} → A ↔ B → B ↔ C → A ↔ C
both_through f g = (λ a. g.0 (f.0 a), λ c. f.1 (g.1 c))

module _ (w : World) where
  class_or_not : (c : ℕ) → IsClass w c ⊎ (IsClass w c → ⊥)
  class_or_not c = go (slice_get w.types c) refl
    where
      kind : (info : TypeInfo) → slice_get w.types c ≡ Some info → (b : Bool) → info.interface ≡ b → IsClass w c ⊎ (IsClass w c → ⊥)
      kind info at false e = inl (info, at, e)
      kind info at true e = inr (λ h. absurd (cc (h.1, h.2, at, e)))

      go : (o : Option TypeInfo) → slice_get w.types c ≡ o → IsClass w c ⊎ (IsClass w c → ⊥)
      go None e = inr (λ h. absurd (cc (h.1, e)))
      go (Some info) e = kind info e info.interface refl

  of_class_or_not : (m : ℕ) → IsOfClass w m ⊎ (IsOfClass w m → ⊥)
  of_class_or_not m = go (slice_get w.methods m) refl
    where
      owned : (info : MethodInfo) → slice_get w.methods m ≡ Some info → info.constructor ≡ false → IsClass w info.owner ⊎ (IsClass w info.owner → ⊥) → IsOfClass w m ⊎ (IsOfClass w m → ⊥)
      owned info at e (inl is) = inl (info.owner, (info, (at, e), refl), is)
      owned info at e (inr not) = inr (λ h.
          let same : h.1.0 ≡ info = cc (h.1.1.0, at) in
          not (subst (IsClass w) (sym h.1.2 ∙ ap (λ (i : MethodInfo). i.owner) same) h.2))

      kind : (info : MethodInfo) → slice_get w.methods m ≡ Some info → (b : Bool) → info.constructor ≡ b → IsOfClass w m ⊎ (IsOfClass w m → ⊥)
      kind info at false e = owned info at e (class_or_not info.owner)
      kind info at true e = inr (λ h. absurd (cc (h.1.1.0, h.1.1.1, at, e)))

      go : (o : Option MethodInfo) → slice_get w.methods m ≡ o → IsOfClass w m ⊎ (IsOfClass w m → ⊥)
      go None e = inr (λ h. absurd (cc (h.1.1.0, e)))
      go (Some info) e = kind info e info.constructor refl

  pub not_itself : (counted : List ℕ) (m : ℕ) → IsPreferred w counted m m → ⊥
  not_itself counted m (from_superclass here not) = not here
  not_itself counted m (of_class alike is not) = not is
  not_itself counted m (declared_first alike kind lt) = omega (arith, lt)

  pub preferred_through : (counted : List ℕ) (m k j : ℕ) → IsPreferred w counted m k → IsPreferred w counted k j → IsPreferred w counted m j
  preferred_through counted m k j (from_superclass here not) (from_superclass there none) = absurd (not there)
  preferred_through counted m k j (from_superclass here not) (of_class alike is other) = from_superclass here (λ h. not (alike.1 h))
  preferred_through counted m k j (from_superclass here not) (declared_first alike kind lt) = from_superclass here (λ h. not (alike.1 h))
  preferred_through counted m k j (of_class alike is other) (from_superclass there none) = from_superclass (alike.1 there) none
  preferred_through counted m k j (of_class alike is other) (of_class alike' is' other') = absurd (other is')
  preferred_through counted m k j (of_class alike is other) (declared_first alike' kind lt) = of_class (both_through alike alike') is (λ h. other (kind.1 h))
  preferred_through counted m k j (declared_first alike kind lt) (from_superclass there none) = from_superclass (alike.1 there) none
  preferred_through counted m k j (declared_first alike kind lt) (of_class alike' is other) = of_class (both_through alike alike') (kind.1 is) other
  preferred_through counted m k j (declared_first alike kind lt) (declared_first alike' kind' lt') = declared_first (both_through alike alike') (both_through kind kind') (omega (arith, lt, lt'))

  pub not_both : (counted : List ℕ) (m k : ℕ) → IsPreferred w counted m k → IsPreferred w counted k m → ⊥
  not_both counted m k a b = not_itself counted m (preferred_through counted m k m a b)

  -- with two lists that have of both methods the same
  pub preferred_alike : (xs ys : List ℕ) (k m : ℕ) → Contains xs k ↔ Contains ys k → Contains xs m ↔ Contains ys m → IsPreferred w xs k m → IsPreferred w ys k m
  preferred_alike xs ys k m one two (from_superclass here not) = from_superclass (one.0 here) (λ h. not (two.1 h))
  preferred_alike xs ys k m one two (of_class alike is not) = of_class (λ h. two.0 (alike.0 (one.1 h)), λ h. one.0 (alike.1 (two.1 h))) is not
  preferred_alike xs ys k m one two (declared_first alike kind lt) = declared_first (λ h. two.0 (alike.0 (one.1 h)), λ h. one.0 (alike.1 (two.1 h))) kind lt

  by_number : (counted : List ℕ) (m k : ℕ) → Contains counted m ↔ Contains counted k → IsOfClass w m ↔ IsOfClass w k → (IsPreferred w counted m k → ⊥) → (k ≡ m) ⊎ IsPreferred w counted k m
  by_number counted m k alike kind not = elim (cases_lt m k) [
    | inl lt ↦ absurd (not (declared_first alike kind lt))
    | inr ge ↦ elim (cases_lt k m) [ inl lt ↦ inr (declared_first (alike.1, alike.0) (kind.1, kind.0) lt) | inr le ↦ inl (omega (arith, ge, le)) ]
  ]

  by_kind : (counted : List ℕ) (m k : ℕ) → Contains counted m ↔ Contains counted k → (IsPreferred w counted m k → ⊥) → (k ≡ m) ⊎ IsPreferred w counted k m
  by_kind counted m k alike not = elim (of_class_or_not m) [
    | inl is ↦ elim (of_class_or_not k) [
      | inl is' ↦ by_number counted m k alike (λ h. is', λ h. is) not
      | inr other ↦ absurd (not (of_class alike is other))
    ]
    | inr other ↦ elim (of_class_or_not k) [
      | inl is ↦ inr (of_class (alike.1, alike.0) is other)
      | inr other' ↦ by_number counted m k alike (λ h. absurd (other h), λ h. absurd (other' h)) not
    ]
  ]

  -- of two one is preferred
  pub other_preferred : (counted : List ℕ) (m k : ℕ) → (IsPreferred w counted m k → ⊥) → (k ≡ m) ⊎ IsPreferred w counted k m
  other_preferred counted m k not = elim (contains_or_not counted m) [
    | inl here ↦ elim (contains_or_not counted k) [
      | inl there ↦ by_kind counted m k (λ h. there, λ h. here) not
      | inr none ↦ absurd (not (from_superclass here none))
    ]
    | inr none ↦ elim (contains_or_not counted k) [
      | inl there ↦ inr (from_superclass there none)
      | inr none' ↦ by_kind counted m k (λ h. absurd (none h), λ h. absurd (none' h)) not
    ]
  ]

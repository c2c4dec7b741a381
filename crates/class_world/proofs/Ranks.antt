-- Where each class has a rank above those of its declared supertypes, none is above itself.
use Rattle.std.proofs.Common.{◌≡◌, ℕ, ◌≤◌, ◌<◌, List, [], Some, ◌⊎◌, inl, inr, refl, sym, ap, ◌∙◌, subst, arith}
use Rattle.std.specs.Prelude.{slice_get}
use Rattle.java_tree.specs.declared.tree.Primitive.TheVariants as prim
use Rattle.class_world.specs.declared.world.World.{World}
use Rattle.class_world.specs.declared.world.JavaType.{JavaType}
use Rattle.class_world.specs.declared.world.JavaType.TheVariants as ty
use Rattle.class_world.specs.DirectSupers.{IsDirectSuper}
use Rattle.class_world.specs.Subtypes.{Subtype, same, through, declared, object, raw, null, arrays, char_int, int_long}
use Rattle.class_world.specs.Sound.{HaveClassSupers}
use Rattle.class_world.specs.Merged.{IsAboveItself}
use Rattle.class_world.proofs.Forms.{primitive_kind, null_kind, class_kind, array_kind, same_class}
use Rattle.class_world.proofs.Orders.{seen_class}
use Rattle.class_world.proofs.Words.{same_or_other}

module _ (w : World) (sups : HaveClassSupers w) (rank : ℕ → ℕ) (falls : (c g : ℕ) (args : List JavaType) → IsDirectSuper w c (ty.Class g args) → rank g < rank c) where
  -- Object declares no supertype
  top_alone : (c : ℕ) (d : JavaType) → c ≡ 0 → IsDirectSuper w c d → ⊥
  top_alone c d zero_is h =
      let none = (sups.top h.0 (subst (λ c. slice_get w.types c ≡ Some h.0) zero_is h.1)).1 in
      absurd (cc (ap (λ xs. slice_get xs h.2) none, h.3))

  -- Object's type, or one of a class of no greater rank
  abbrev IsRisen : ℕ → JavaType → Type 0
  IsRisen c t = (g : ℕ) × (ys : List JavaType) × (t ≡ ty.Class g ys) × ((g ≡ 0) ⊎ ((c ≡ 0 → ⊥) × (rank g ≤ rank c)))

  pub risen : (s t : JavaType) → Subtype w s t → (c : ℕ) (xs : List JavaType) → s ≡ ty.Class c xs → IsRisen c t
  risen s t same c xs e = (c, xs, e, elim (same_or_other c 0) [ inl top ↦ inl top | inr other ↦ inr (other, omega arith) ])
  risen s t (through {m = m} a b) c xs e =
      let low = risen s m a c xs e in
      let high = risen m t b low.0 low.1 low.2 in (
        high.0,
        high.1,
        high.2,
        elim high.3 [
          | inl top ↦ inl top
          | inr h ↦ elim low.3 [ inl top ↦ absurd (h.0 top) | inr l ↦ inr (l.0, omega (arith, h.1, l.1)) ]
        ],
      )
  risen s t (declared {c = d} {args = zs} h) c xs e =
      let number = (same_class d c zs xs e).0 in
      let direct : IsDirectSuper w d h.2 = (h.0, h.1, h.3, h.4) in
      let sup = (sups.supers d h.0 h.2 h.1 direct).1 in
      let shape = seen_class h.0.params zs h.2 t sup.0 sup.1 sup.2 h.5 in
      let lower = falls d sup.0 sup.1 (subst (IsDirectSuper w d) sup.2 direct) in
      (sup.0, shape.0, shape.1, inr (λ top. top_alone d h.2 (number ∙ top) direct, subst (λ c. rank sup.0 ≤ rank c) number (omega (arith, lower))))
  risen s t (object r) c xs e = (0, [], refl, inl refl)
  risen s t (raw d zs) c xs e =
      let number = (same_class d c zs xs e).0 in
      (c, [], ap (λ c. ty.Class c []) number, elim (same_or_other c 0) [ inl top ↦ inl top | inr other ↦ inr (other, omega arith) ])
  risen s t (null r) c xs e = absurd (cc (null_kind, class_kind c xs, e))
  risen s t (arrays {s = x} r r' h) c xs e = absurd (cc (array_kind x, class_kind c xs, e))
  risen s t char_int c xs e = absurd (cc (primitive_kind prim.Char, class_kind c xs, e))
  risen s t int_long c xs e = absurd (cc (primitive_kind prim.Int, class_kind c xs, e))

  pub not_above_itself : (c : ℕ) → IsAboveItself w c → ⊥
  not_above_itself c h =
      let up = risen _ _ h.3 h.0 [] refl in
      let number : c ≡ up.0 = (same_class c up.0 [] up.1 up.2).0 in
      let lower = falls c h.0 h.1 h.2 in
      elim up.3 [
        | inl top ↦ top_alone c (ty.Class h.0 h.1) (number ∙ top) h.2
        | inr k ↦ let le : rank c ≤ rank h.0 = subst (λ g. rank g ≤ rank h.0) (sym number) k.1 in absurd (omega (arith, le, lower))
      ]

-- What is above a class comes over its declared supertypes.
use Rattle.std.proofs.Common.{◌≡◌, ℕ, ◌+◌, List, [], ◌∷◌, ◌⊎◌, inl, inr, map, refl, sym, ap, ◌∙◌, subst, length, arith}
use Rattle.java_tree.specs.declared.tree.Primitive.TheVariants as prim
use Rattle.class_world.specs.declared.world.World.{World}
use Rattle.class_world.specs.declared.world.TypeInfo.{TypeInfo}
use Rattle.class_world.specs.declared.world.JavaType.{JavaType}
use Rattle.class_world.specs.declared.world.JavaType.TheVariants as ty
use Rattle.class_world.specs.Types.{object_type, substitute, erased, variables, IsTypeOver, a_primitive, the_null, a_class, a_variable, an_array}
use Rattle.class_world.specs.Subtypes.{Subtype, same, through, declared, object, raw, null, arrays, char_int, int_long, IsDeclaredSuper}
use Rattle.class_world.specs.Sound.{HaveClassSupers}
use Rattle.class_world.proofs.Forms.{primitive_kind, null_kind, class_kind, array_kind, same_class}
use Rattle.class_world.proofs.Substs.{put_primitive, put_null, put_class, put_array, put_at, map_same, there_is, erased_class, variables_length, variables_at}
use Rattle.class_world.proofs.Orders.{class_parts, bare_over, object_above}
use Rattle.class_world.proofs.Lifts.{bare}

-- a class's own variables put for themselves
pub put_same : (w : World) (n : ℕ) (t : JavaType) → IsTypeOver w n t → substitute (variables 0 n) t ≡ t
put_same w n t (a_primitive p) = put_primitive _ p
put_same w n t the_null = put_null _
put_same w n t (a_class {c = c} {args = xs} at counts refs parts) = put_class _ c xs ∙ ap (λ xs. ty.Class c xs) (map_same (substitute (variables 0 n)) xs (λ k x e. put_same w n x (parts k x e)))
put_same w n t (a_variable {k = k} lt) =
    let len : length (variables 0 n) ≡ n = variables_length 0 n in
    let at = there_is (variables 0 n) k (omega (arith, lt, len)) in
    let is = variables_at 0 n k at.0 at.1 in
    let zero_first : 0 + k ≡ k = omega arith in
    put_at (variables 0 n) k at.0 at.1 ∙ is.0 ∙ ap ty.Var zero_first
put_same w n t (an_array {element = x} some part) = put_array _ x ∙ ap ty.Array (put_same w n x part)

module _ (w : World) (sups : HaveClassSupers w) where
  -- the ways up from a class type
  abbrev pub Up : ℕ → List JavaType → JavaType → Type 0
  Up c xs t = (t ≡ ty.Class c xs) ⊎ (t ≡ ty.Class c []) ⊎ (t ≡ object_type) ⊎ ((m : JavaType) × IsDeclaredSuper w c xs m × Subtype w m t)

  -- what is above a declared supertype of the raw type is above one of the parameterized type
  from_raw : (n c : ℕ) (xs : List JavaType) (m t : JavaType) → IsTypeOver w n (ty.Class c xs) → IsDeclaredSuper w c [] m → Subtype w m t → (k : JavaType) × IsDeclaredSuper w c xs k × Subtype w k t
  from_raw n c xs m t over h up =
      let parts = class_parts w n (ty.Class c xs) c xs over refl in
      let sup = sups.supers c h.0 h.2 h.1 (h.0, h.1, h.3, h.4) in
      let same_info : parts.0 ≡ h.0 = cc (parts.1, h.1) in
      elim parts.2 [
        | inl none ↦ (m, subst (λ xs. IsDeclaredSuper w c xs m) (sym none) h, up)
        | inr len ↦
            let count : length xs ≡ h.0.params = len ∙ ap (λ (i : TypeInfo). i.params) same_info in
            let shape : substitute xs h.2 ≡ ty.Class sup.1.0 (map (substitute xs) sup.1.1) = ap (substitute xs) sup.1.2 ∙ put_class xs sup.1.0 sup.1.1 in
            elim h.5 [
              | inl plain ↦
                  let none : xs ≡ [] = no_items xs (count ∙ sym plain.0) in
                  (m, subst (λ xs. IsDeclaredSuper w c xs m) (sym none) h, up)
              | inr bare ↦
                  let flat : m ≡ ty.Class sup.1.0 [] = bare.2 ∙ ap erased sup.1.2 ∙ erased_class sup.1.0 sup.1.1 in
                  let low : Subtype w (substitute xs h.2) m = subst (λ k. Subtype w k m) (sym shape) (subst (Subtype w (ty.Class sup.1.0 (map (substitute xs) sup.1.1))) (sym flat) (raw _ _)) in
                  (substitute xs h.2, (h.0, h.1, h.2, h.3, h.4, inl (count, refl)), through low up)
            ]
      ]
    where
      no_items : (xs : List JavaType) → length xs ≡ 0 → xs ≡ []
      no_items [] e = refl
      no_items (x ∷ xs) e = absurd (omega (arith, e))

  pub step_up : (s t : JavaType) → Subtype w s t → (n c : ℕ) (xs : List JavaType) → s ≡ ty.Class c xs → IsTypeOver w n (ty.Class c xs) → Up c xs t
  step_up s t same n c xs e over = inl e
  step_up s t (through {m = m} a b) n c xs e over =
      let parts = class_parts w n (ty.Class c xs) c xs over refl in
      elim (step_up s m a n c xs e over) [
        | inl same_m ↦ step_up m t b n c xs same_m over
        | inr (inl bare_m) ↦
            elim (step_up m t b n c [] bare_m (bare_over w n c parts.0 parts.1)) [
              | inl k ↦ inr (inl k)
              | inr (inl k) ↦ inr (inl k)
              | inr (inr (inl k)) ↦ inr (inr (inl k))
              | inr (inr (inr k)) ↦ inr (inr (inr (from_raw n c xs k.0 t over k.1 k.2)))
            ]
        | inr (inr (inl top)) ↦ inr (inr (inl (object_above w sups m t b top)))
        | inr (inr (inr k)) ↦ inr (inr (inr (k.0, k.1, through k.2 b)))
      ]
  step_up s t (declared {c = d} {args = zs} h) n c xs e over =
      let is = same_class d c zs xs e in
      inr (inr (inr (t, subst (λ xs. IsDeclaredSuper w c xs t) is.1 (subst (λ c. IsDeclaredSuper w c zs t) is.0 h), same)))
  step_up s t (object r) n c xs e over = inr (inr (inl refl))
  step_up s t (raw d zs) n c xs e over = inr (inl (ap (λ c. ty.Class c []) (same_class d c zs xs e).0))
  step_up s t (null r) n c xs e over = absurd (cc (null_kind, class_kind c xs, e))
  step_up s t (arrays {s = x} r r' h) n c xs e over = absurd (cc (array_kind x, class_kind c xs, e))
  step_up s t char_int n c xs e over = absurd (cc (primitive_kind prim.Char, class_kind c xs, e))
  step_up s t int_long n c xs e over = absurd (cc (primitive_kind prim.Int, class_kind c xs, e))

-- What the order's questions come to, form by form.
use Rattle.std.proofs.Common.{◌≡◌, ℕ, List, [], ◌∷◌, Option, Some, None, ◌↔◌, inl, inr, Bool, true, false, refl, sym, ap, ◌∙◌, subst, nat_eq, arith}
use Rattle.std.specs.Prelude.{slice_get, IsTrue, not, IfSome, IfNone}
use Rattle.std.proofs.lemmas.Bool.{eq-eqb}
use denote.Enum.Bare.{sameb}
use Rattle.java_tree.specs.contracts.tree.Primitive as primitives
use Rattle.java_tree.specs.declared.tree.Primitive.{Primitive}
use Rattle.java_tree.specs.declared.tree.Primitive.TheVariants as prim
use Rattle.class_world.specs.declared.world.World.{World}
use Rattle.class_world.specs.declared.world.Above.{Above}
use Rattle.class_world.specs.declared.world.JavaType.{JavaType}
use Rattle.class_world.specs.declared.world.JavaType.TheVariants as ty
use Rattle.class_world.specs.Types.{object_type, variables, IsReference, of_class, of_variable, of_array, IsTypeOver, a_primitive, the_null, a_class, a_variable, an_array}
use Rattle.class_world.specs.Subtypes.{Subtype, same, through, object, raw, null, arrays, Parameterizes, IsSuperAs}
use Rattle.class_world.specs.Sound.{HaveClassSupers, IsSound, IsSet, IsOfWorld, IsKnown}
use Rattle.class_world.specs.Climbs.{HasBase, IsClassType, IsRaw, IsSaid}
use Rattle.class_world.proofs.Forms.{primitive_kind, null_kind, class_kind, variable_kind, array_kind, same_primitive, same_element, same_class, primitive_refers_not}
use Rattle.class_world.proofs.Orders as orders
use Rattle.class_world.proofs.Orders.{widens, class_supers}
use Rattle.class_world.proofs.Lifts as lifts
use Rattle.class_world.proofs.Ways.{row_of}

-- the tests of primitive types

pub char_widens : (q : Primitive) → not (sameb primitives.the_type q prim.Boolean) ≡ widens prim.Char q
char_widens prim.Char = refl
char_widens prim.Int = refl
char_widens prim.Long = refl
char_widens prim.Boolean = refl

pub int_widens : (q : Primitive) → sameb primitives.the_type q prim.Int ≡ true → widens prim.Int q ≡ true
int_widens prim.Char e = absurd (cc e)
int_widens prim.Int e = refl
int_widens prim.Long e = refl
int_widens prim.Boolean e = absurd (cc e)

pub int_widens_on : (q : Primitive) → sameb primitives.the_type q prim.Int ≡ false → sameb primitives.the_type q prim.Long ≡ widens prim.Int q
int_widens_on prim.Char e = refl
int_widens_on prim.Int e = absurd (cc e)
int_widens_on prim.Long e = refl
int_widens_on prim.Boolean e = refl

pub long_widens : (q : Primitive) → sameb primitives.the_type q prim.Long ≡ widens prim.Long q
long_widens prim.Char = refl
long_widens prim.Int = refl
long_widens prim.Long = refl
long_widens prim.Boolean = refl

pub boolean_widens : (q : Primitive) → sameb primitives.the_type q prim.Boolean ≡ widens prim.Boolean q
boolean_widens prim.Char = refl
boolean_widens prim.Int = refl
boolean_widens prim.Long = refl
boolean_widens prim.Boolean = refl

module _ (w : World) (sound : IsSound w) where
  sups : HaveClassSupers w
  sups = class_supers w sound.declared

  pub widens_told : (r : Bool) (p q : Primitive) → r ≡ widens p q → IsTrue r ↔ Subtype w (ty.Prim p) (ty.Prim q)
  widens_told r p q e = (
    λ h. orders.primitive_below w sups p q (sym e ∙ h),
    λ h.
        let up = orders.primitive_above w sups (ty.Prim p) (ty.Prim q) h p refl in
        e ∙ subst (λ z. widens p z ≡ true) (sym (same_primitive q up.0 up.1)) up.2,
  )

  pub above_primitive_not : (s t : JavaType) (p : Primitive) → s ≡ ty.Prim p → ((q : Primitive) → t ≡ ty.Prim q → ⊥) → Subtype w s t → ⊥
  above_primitive_not s t p e none h = let up = orders.primitive_above w sups s t h p e in none up.0 up.1

  pub above_null_not : (s t : JavaType) (q : Primitive) → s ≡ ty.Null → t ≡ ty.Prim q → Subtype w s t → ⊥
  above_null_not s t q e i h =
      elim (orders.null_above w sups s t h e) [
        | inl k ↦ absurd (cc (primitive_kind q, null_kind, sym i ∙ k))
        | inr r ↦ primitive_refers_not t q r i
      ]

  pub above_null : (n : ℕ) (s t : JavaType) → IsTypeOver w n t → s ≡ ty.Null → ((q : Primitive) → t ≡ ty.Prim q → ⊥) → Subtype w s t
  above_null n s t over e none = subst (λ s. Subtype w s t) (sym e) (go t over none)
    where
      go : (t : JavaType) → IsTypeOver w n t → ((q : Primitive) → t ≡ ty.Prim q → ⊥) → Subtype w ty.Null t
      go t (a_primitive p) none = absurd (none p refl)
      go t the_null none = same
      go t (a_class at counts refs parts) none = null (of_class _ _)
      go t (a_variable lt) none = null (of_variable _)
      go t (an_array some part) none = null (of_array _)

  pub above_variable : (r : Bool) (s t : JavaType) (k : ℕ) → s ≡ ty.Var k → (s ≡ t → ⊥) → IsTrue r ↔ (t ≡ object_type) → IsTrue r ↔ Subtype w s t
  above_variable r s t k e other is = (
    λ h. subst (Subtype w s) (sym (is.0 h)) (object (subst IsReference (sym e) (of_variable k))),
    λ h. elim (orders.variable_above w sups s t h k e) [ inl i ↦ absurd (other (sym i)) | inr top ↦ is.1 top ],
  )

  pub between_arrays : (r : Bool) (s t x y : JavaType) → s ≡ ty.Array x → t ≡ ty.Array y → IsReference x → IsReference y → IsTrue r ↔ Subtype w x y → IsTrue r ↔ Subtype w s t
  between_arrays r s t x y e i rx ry is = (
    λ h. subst (λ s. Subtype w s t) (sym e) (subst (Subtype w (ty.Array x)) (sym i) (arrays rx ry (is.0 h))),
    λ h. elim (orders.array_above w sups s t h x e) [
      | inl k ↦ is.1 (subst (Subtype w x) (same_element x y (sym k ∙ i)) same)
      | inr (inl top) ↦ absurd (cc (class_kind 0 [], array_kind y, sym top ∙ i))
      | inr (inr k) ↦ is.1 (subst (Subtype w x) (same_element k.0 y (sym k.1 ∙ i)) k.4)
    ],
  )

  pub between_other_arrays : (r : Bool) (s t x y : JavaType) → s ≡ ty.Array x → t ≡ ty.Array y → (IsReference x × IsReference y → ⊥) → IsTrue r ↔ (x ≡ y) → IsTrue r ↔ Subtype w s t
  between_other_arrays r s t x y e i refs is = (
    λ h. subst (Subtype w s) (e ∙ ap ty.Array (is.0 h) ∙ sym i) same,
    λ h. elim (orders.array_above w sups s t h x e) [
      | inl k ↦ is.1 (same_element x y (sym k ∙ i))
      | inr (inl top) ↦ absurd (cc (class_kind 0 [], array_kind y, sym top ∙ i))
      | inr (inr k) ↦ absurd (refs (k.2, subst IsReference (same_element k.0 y (sym k.1 ∙ i)) k.3))
    ],
  )

  pub above_array : (r : Bool) (s t x : JavaType) → s ≡ ty.Array x → ((y : JavaType) → t ≡ ty.Array y → ⊥) → IsTrue r ↔ (t ≡ object_type) → IsTrue r ↔ Subtype w s t
  above_array r s t x e none is = (
    λ h. subst (Subtype w s) (sym (is.0 h)) (object (subst IsReference (sym e) (of_array x))),
    λ h. elim (orders.array_above w sups s t h x e) [
      | inl k ↦ absurd (none x k)
      | inr (inl top) ↦ is.1 top
      | inr (inr k) ↦ absurd (none k.0 k.1)
    ],
  )

  pub above_class_not : (c : ℕ) (args : List JavaType) (t : JavaType) → IsOfWorld w (ty.Class c args) → ((g : ℕ) (ys : List JavaType) → t ≡ ty.Class g ys → ⊥)
      → Subtype w (ty.Class c args) t → ⊥
  above_class_not c args t over none h = let up = orders.class_above w sups over.0 (ty.Class c args) t h c args refl over.1 in none up.0.0 up.0.1 up.0.2

  pub class_above_told : (r : Bool) (c g : ℕ) (args : List JavaType) (row : Above) (words : List ℕ) → IsKnown w c → slice_get w.above c ≡ Some row → words ≡ row.types
      → IsTrue r ↔ IsSet words g → IsTrue r ↔ Subtype w (ty.Class c args) (ty.Class g [])
  class_above_told r c g args row words known there same_words is =
      let types = (row_of w sound c known.0 row known.1 there).types g in
      let own = variables 0 known.0.params in (
        λ h. lifts.bare_alike w sups c g own args (types.0 (subst (λ words. IsSet words g) same_words (is.0 h))),
        λ h. is.1 (subst (λ words. IsSet words g) (sym same_words) (types.1 (lifts.bare_alike w sups c g args own h))),
      )

  pub none_above : (c : ℕ) → IsKnown w c → slice_get w.above c ≡ None → ⊥
  none_above c known none = let has = sound.rows c known.0 known.1 in absurd (cc (has.1, none))

  -- a type above which Object is the one class

  abbrev pub UnderObject : JavaType → Type 0
  UnderObject s = (g : ℕ) (ys : List JavaType) → Subtype w s (ty.Class g ys) → ty.Class g ys ≡ object_type

  pub variable_under : (s : JavaType) (k : ℕ) → s ≡ ty.Var k → UnderObject s
  variable_under s k e g ys h = elim (orders.variable_above w sups s (ty.Class g ys) h k e) [
    | inl i ↦ absurd (cc (class_kind g ys, variable_kind k, i ∙ e))
    | inr top ↦ top
  ]

  pub array_under : (s x : JavaType) → s ≡ ty.Array x → UnderObject s
  array_under s x e g ys h = elim (orders.array_above w sups s (ty.Class g ys) h x e) [
    | inl i ↦ absurd (cc (class_kind g ys, array_kind x, i))
    | inr (inl top) ↦ top
    | inr (inr k) ↦ absurd (cc (class_kind g ys, array_kind k.0, k.1))
  ]

  pub none_parameterized : (s : JavaType) (g : ℕ) → UnderObject s → (v : JavaType) → Parameterizes g v → Subtype w s v → ⊥
  none_parameterized s g under v is h = is.2 (same_class g 0 is.0 [] (under g is.0 (subst (Subtype w s) is.1 h))).1

  pub object_number : (s : JavaType) (g : ℕ) → UnderObject s → IsReference s → IsTrue (nat_eq g 0) ↔ Subtype w s (ty.Class g [])
  object_number s g under r = (
    λ h. let is : g ≡ 0 = from_test g h in subst (λ g. Subtype w s (ty.Class g [])) (sym is) (object r),
    λ h. eq-eqb g 0 (same_class g 0 [] [] (under g [] h)).0,
  )
    where
      from_test : (g : ℕ) → nat_eq g 0 ≡ true → g ≡ 0
      from_test g h = grind (arith, h)

  pub object_alone : (s : JavaType) (g : ℕ) → UnderObject s → IsReference s
      → IsTrue (nat_eq g 0) ↔ (Subtype w s (ty.Class g []) × ((u : JavaType) → Parameterizes g u → Subtype w s u → ⊥))
  object_alone s g under r = (λ h. ((object_number s g under r).0 h, none_parameterized s g under), λ h. (object_number s g under r).1 h.0)

  pub alone_told : (r said : Bool) (s : JavaType) (c g : ℕ) (args : List JavaType) → s ≡ ty.Class c args → IsOfWorld w s → IsTrue said ↔ IsRaw w c args
      → ((args : List JavaType) → IsSaid w c said args → IsTrue r ↔ HasBase w (ty.Class c args) g) → Subtype w (ty.Class c args) (ty.Class g [])
      → IsTrue (not r) ↔ (Subtype w s (ty.Class g []) × ((u : JavaType) → Parameterizes g u → Subtype w s u → ⊥))
  alone_told r said s c g args e over is told up =
      let base = told args ((over.0, subst (IsTypeOver w over.0) e over.1), is) in (
        λ h. (subst (λ s. Subtype w s (ty.Class g [])) (sym e) up, λ u p k. not_both r h (base.1 (u, p, subst (λ s. Subtype w s u) e k))),
        λ h. negated r (λ holds. let b = base.0 holds in h.1 b.0 b.1 (subst (λ s. Subtype w s b.0) (sym e) b.2)),
      )
    where
      not_both : (r : Bool) → IsTrue (not r) → IsTrue r → ⊥
      not_both true h k = cc h
      not_both false h k = cc k

      negated : (r : Bool) → (IsTrue r → ⊥) → IsTrue (not r)
      negated true f = absurd (f refl)
      negated false f = refl

  -- no class is above a primitive type
  pub primitive_under : (s : JavaType) (p : Primitive) (g : ℕ) (ys : List JavaType) → s ≡ ty.Prim p → Subtype w s (ty.Class g ys) → ⊥
  primitive_under s p g ys e h = let up = orders.primitive_above w sups s (ty.Class g ys) h p e in cc (class_kind g ys, primitive_kind up.0, up.1)

  -- every parameterization is above the null type
  pub null_parameterized : (s : JavaType) (g : ℕ) → s ≡ ty.Null → ((u : JavaType) → Parameterizes g u → Subtype w s u → ⊥) → ⊥
  null_parameterized s g e none =
      none (ty.Class g (object_type ∷ [])) (object_type ∷ [], refl, λ h. absurd (cc h)) (subst (λ s. Subtype w s (ty.Class g (object_type ∷ []))) (sym e) (null (of_class _ _)))

  -- the answers of `super_as`

  pub super_bare : (t : JavaType) (g : ℕ) (o : Option JavaType) (r : Bool) → IfSome o (λ u. IsTrue r × (u ≡ ty.Class g [])) → IfNone o (IsTrue r → ⊥)
      → IsTrue r ↔ Subtype w t (ty.Class g []) → ((v : JavaType) → Parameterizes g v → Subtype w t v → ⊥) → IsSuperAs w t g o
  super_bare t g None r some none is alone = λ args h. none (is.1 (through h (raw g args)))
  super_bare t g (Some u) r some none is alone = (subst (Subtype w t) (sym some.1) (is.0 some.0), ([], some.1), λ v p h. absurd (alone v p h))

  pub super_parameterized : (g : ℕ) (t u : JavaType) → IsClassType w t → Parameterizes g u → Subtype w t u
      → Subtype w t u × ((xs : List JavaType) × (u ≡ ty.Class g xs)) × ((z : JavaType) → Parameterizes g z → Subtype w t z → z ≡ u)
  super_parameterized g t u is p h = (
    h,
    (p.0, p.1),
    λ z q k.
        let c = is.1.0 in
        let xs = is.1.1 in
        lifts.one_base w sups is.0.0 c g xs z u (sound.single c) (subst (IsTypeOver w is.0.0) is.1.2 is.0.1) q p (subst (λ t. Subtype w t z) is.1.2 k) (subst (λ t. Subtype w t u) is.1.2 h),
  )

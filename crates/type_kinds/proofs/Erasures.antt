-- The order of erasures, and what casts come to, form by form.
use Rattle.std.proofs.Common.{◌≡◌, ℕ, List, [], ◌⊎◌, inl, inr, ◌↔◌, Bool, refl, sym, ap, ◌∙◌, subst}
use Rattle.std.specs.Prelude.{IsTrue}
use Rattle.java_tree.specs.declared.tree.Primitive.{Primitive}
use Rattle.class_world.specs.declared.world.World.{World}
use Rattle.class_world.specs.declared.world.JavaType.{JavaType}
use Rattle.class_world.specs.declared.world.JavaType.TheVariants as ty
use Rattle.class_world.specs.Types.{object_type, erased, IsReference, of_class, of_variable, of_array, IsTypeOver, a_primitive, the_null, a_class, a_variable, an_array}
use Rattle.class_world.specs.Subtypes.{Subtype, same, through, object, raw, null}
use Rattle.class_world.specs.Sound.{HaveClassSupers, IsSound, IsOfWorld}
use Rattle.class_world.proofs.Forms.{primitive_kind, null_kind, class_kind, variable_kind, array_kind, same_class, same_element, primitive_refers_not, null_refers_not}
use Rattle.class_world.proofs.Substs.{erased_primitive, erased_null, erased_class, erased_variable, erased_array}
use Rattle.class_world.proofs.Orders as orders
use Rattle.class_world.proofs.Orders.{class_supers, class_parts, bare_over}
use Rattle.class_world.proofs.Lifts as lifts
use Rattle.class_world.proofs.Decides as by
use Rattle.type_kinds.specs.Casts.{AreCastableClasses, Castable, down, up, interfaces, to_interface, from_interface, arrays}

-- erasures of references are references, and of other types themselves

pub refers_on : (w : World) (n : ℕ) (s : JavaType) → IsTypeOver w n s → IsReference s → IsReference (erased s)
refers_on w n s (a_primitive p) r = absurd (primitive_refers_not s p r refl)
refers_on w n s the_null r = absurd (null_refers_not s r refl)
refers_on w n s (a_class {c = c} {args = xs} at counts refs parts) r = subst IsReference (sym (erased_class c xs)) (of_class c [])
refers_on w n s (a_variable {k = k} lt) r = subst IsReference (sym (erased_variable k)) (of_class 0 [])
refers_on w n s (an_array {element = x} some part) r = subst IsReference (sym (erased_array x)) (of_array (erased x))

pub refers_back : (w : World) (n : ℕ) (s : JavaType) → IsTypeOver w n s → IsReference (erased s) → IsReference s
refers_back w n s (a_primitive p) r = absurd (primitive_refers_not _ p r (erased_primitive p))
refers_back w n s the_null r = absurd (null_refers_not _ r erased_null)
refers_back w n s (a_class at counts refs parts) r = of_class _ _
refers_back w n s (a_variable lt) r = of_variable _
refers_back w n s (an_array some part) r = of_array _

pub plain_erased : (w : World) (n : ℕ) (s : JavaType) → IsTypeOver w n s → (IsReference s → ⊥) → erased s ≡ s
plain_erased w n s (a_primitive p) none = erased_primitive p
plain_erased w n s the_null none = erased_null
plain_erased w n s (a_class at counts refs parts) none = absurd (none (of_class _ _))
plain_erased w n s (a_variable lt) none = absurd (none (of_variable _))
plain_erased w n s (an_array some part) none = absurd (none (of_array _))

-- two types of which one is no reference are the same where their erasures are
pub same_plain : (w : World) (n m : ℕ) (x y : JavaType) → IsTypeOver w n x → IsTypeOver w m y → (IsReference x → ⊥) → erased x ≡ erased y → x ≡ y
same_plain w n m x y hx hy none e =
    let here : erased x ≡ x = plain_erased w n x hx none in
    let there : erased y ≡ y = plain_erased w m y hy (λ r. none (refers_back w n x hx (subst IsReference (sym e) (refers_on w m y hy r)))) in
    sym here ∙ e ∙ there

pub same_erased : (w : World) (n m : ℕ) (x y : JavaType) → IsTypeOver w n x → IsTypeOver w m y → (IsReference x × IsReference y → ⊥) → erased x ≡ erased y → x ≡ y
same_erased w n m x y (a_primitive p) hy none e = same_plain w n m x y (a_primitive p) hy (λ r. primitive_refers_not x p r refl) e
same_erased w n m x y the_null hy none e = same_plain w n m x y the_null hy (λ r. null_refers_not x r refl) e
same_erased w n m x y (a_class at counts refs parts) hy none e = sym (same_plain w m n y x hy (a_class at counts refs parts) (λ r. none (of_class _ _, r)) (sym e))
same_erased w n m x y (a_variable lt) hy none e = sym (same_plain w m n y x hy (a_variable lt) (λ r. none (of_variable _, r)) (sym e))
same_erased w n m x y (an_array some part) hy none e = sym (same_plain w m n y x hy (an_array some part) (λ r. none (of_array _, r)) (sym e))

-- a primitive type, the type of null, or a class without arguments
abbrev pub IsBare : JavaType → Type 0
IsBare u = ((g : ℕ) (ys : List JavaType) → u ≡ ty.Class g ys → ys ≡ []) × ((k : ℕ) → u ≡ ty.Var k → ⊥) × ((y : JavaType) → u ≡ ty.Array y → ⊥)

pub bare_primitive : (q : Primitive) → IsBare (ty.Prim q)
bare_primitive q = (λ g ys e. absurd (cc (primitive_kind q, class_kind g ys, e)), λ k e. absurd (cc (primitive_kind q, variable_kind k, e)), λ y e. absurd (cc (primitive_kind q, array_kind y, e)))

pub bare_null : IsBare ty.Null
bare_null = (λ g ys e. absurd (cc (null_kind, class_kind g ys, e)), λ k e. absurd (cc (null_kind, variable_kind k, e)), λ y e. absurd (cc (null_kind, array_kind y, e)))

pub bare_class : (g : ℕ) → IsBare (ty.Class g [])
bare_class g = (λ h ys e. sym (same_class g h [] ys e).1, λ k e. absurd (cc (class_kind g [], variable_kind k, e)), λ y e. absurd (cc (class_kind g [], array_kind y, e)))

-- the class of a type of the world, without arguments
pub bare_of_world : (w : World) (t : JavaType) (g : ℕ) (ys zs : List JavaType) → t ≡ ty.Class g ys → zs ≡ [] → IsOfWorld w t → IsOfWorld w (ty.Class g zs)
bare_of_world w t g ys zs is empty over =
    let parts = class_parts w over.0 t g ys over.1 is in
    (over.0, subst (λ zs. IsTypeOver w over.0 (ty.Class g zs)) (sym empty) (bare_over w over.0 g parts.0 parts.1))

module _ (w : World) (sound : IsSound w) where
  sups : HaveClassSupers w
  sups = class_supers w sound.declared

  abbrev pub Alike : JavaType → JavaType → Type 0
  Alike s u = Subtype w s u ↔ Subtype w (erased s) u

  itself : (s u : JavaType) → erased s ≡ s → Alike s u
  itself s u e = (λ h. subst (λ s. Subtype w s u) (sym e) h, λ h. subst (λ s. Subtype w s u) e h)

  of_a_class : (n c : ℕ) (xs : List JavaType) (u : JavaType) → IsTypeOver w n (ty.Class c xs) → IsBare u → Alike (ty.Class c xs) u
  of_a_class n c xs u over bare = (
    λ h.
        let high = orders.class_above w sups n (ty.Class c xs) u h c xs refl over in
        let is : u ≡ ty.Class high.0.0 [] = high.0.2 ∙ ap (ty.Class high.0.0) (bare.0 high.0.0 high.0.1 high.0.2) in
        subst (λ s. Subtype w s u) (sym (erased_class c xs)) (subst (Subtype w (ty.Class c [])) (sym is) (lifts.bare_alike w sups c high.0.0 xs [] (subst (Subtype w (ty.Class c xs)) is h))),
    λ h. through (raw c xs) (subst (λ s. Subtype w s u) (erased_class c xs) h),
  )

  of_a_variable : (k : ℕ) (u : JavaType) → IsBare u → Alike (ty.Var k) u
  of_a_variable k u bare = (
    λ h. elim (orders.variable_above w sups (ty.Var k) u h k refl) [
      | inl i ↦ absurd (bare.1 k i)
      | inr top ↦ subst (λ s. Subtype w s u) (sym (erased_variable k)) (subst (Subtype w object_type) (sym top) same)
    ],
    λ h. subst (Subtype w (ty.Var k)) (sym (orders.object_above w sups object_type u (subst (λ s. Subtype w s u) (erased_variable k) h) refl)) (object (of_variable k)),
  )

  of_an_array : (x u : JavaType) → IsBare u → Alike (ty.Array x) u
  of_an_array x u bare = (
    λ h. subst (λ s. Subtype w s u) (sym (erased_array x)) (subst (Subtype w (ty.Array (erased x))) (sym (top x h)) (object (of_array _))),
    λ h. subst (Subtype w (ty.Array x)) (sym (top (erased x) (subst (λ s. Subtype w s u) (erased_array x) h))) (object (of_array _)),
  )
    where
      top : (x : JavaType) → Subtype w (ty.Array x) u → u ≡ object_type
      top x h = elim (orders.array_above w sups (ty.Array x) u h x refl) [
        | inl i ↦ absurd (bare.2 x i)
        | inr (inl i) ↦ i
        | inr (inr k) ↦ absurd (bare.2 k.0 k.1)
      ]

  alike : (n : ℕ) (s u : JavaType) → IsTypeOver w n s → IsBare u → Alike s u
  alike n s u (a_primitive p) bare = itself s u (erased_primitive p)
  alike n s u the_null bare = itself s u erased_null
  alike n s u (a_class {c = c} {args = xs} at counts refs parts) bare = of_a_class n c xs u (a_class at counts refs parts) bare
  alike n s u (a_variable {k = k} lt) bare = of_a_variable k u bare
  alike n s u (an_array {element = x} some part) bare = of_an_array x u bare

  pub below_bare : (r : Bool) (s t u : JavaType) → IsOfWorld w s → erased t ≡ u → IsBare u → IsTrue r ↔ Subtype w s u → IsTrue r ↔ Subtype w (erased s) (erased t)
  below_bare r s t u over e bare told =
      let both = alike over.0 s u over.1 bare in (
        λ h. subst (Subtype w (erased s)) (sym e) (both.0 (told.0 h)),
        λ h. told.1 (both.1 (subst (Subtype w (erased s)) e h)),
      )

  pub below_primitive : (r : Bool) (s t : JavaType) (q : Primitive) → IsOfWorld w s → t ≡ ty.Prim q → IsTrue r ↔ Subtype w s t → IsTrue r ↔ Subtype w (erased s) (erased t)
  below_primitive r s t q over is told =
      below_bare r s t (ty.Prim q) over (ap erased is ∙ erased_primitive q) (bare_primitive q) (subst (λ t. IsTrue r ↔ Subtype w s t) is told)

  pub below_null : (r : Bool) (s t : JavaType) → IsOfWorld w s → t ≡ ty.Null → IsTrue r ↔ Subtype w s t → IsTrue r ↔ Subtype w (erased s) (erased t)
  below_null r s t over is told = below_bare r s t ty.Null over (ap erased is ∙ erased_null) bare_null (subst (λ t. IsTrue r ↔ Subtype w s t) is told)

  pub below_class : (r : Bool) (s t : JavaType) (g : ℕ) (ys zs : List JavaType) → IsOfWorld w s → t ≡ ty.Class g ys → zs ≡ [] → IsTrue r ↔ Subtype w s (ty.Class g zs)
      → IsTrue r ↔ Subtype w (erased s) (erased t)
  below_class r s t g ys zs over is empty told =
      below_bare r s t (ty.Class g []) over (ap erased is ∙ erased_class g ys) (bare_class g) (subst (λ zs. IsTrue r ↔ Subtype w s (ty.Class g zs)) empty told)

  -- below a type variable's erasure, Object

  pub primitive_below_not : (s t : JavaType) (p : Primitive) (k : ℕ) → s ≡ ty.Prim p → t ≡ ty.Var k → Subtype w (erased s) (erased t) → ⊥
  primitive_below_not s t p k e i h =
      by.primitive_under w sound (erased s) p 0 [] (ap erased e ∙ erased_primitive p) (subst (Subtype w (erased s)) (ap erased i ∙ erased_variable k) h)

  pub below_variable : (s t : JavaType) (k : ℕ) → IsOfWorld w s → ((p : Primitive) → s ≡ ty.Prim p → ⊥) → t ≡ ty.Var k → Subtype w (erased s) (erased t)
  below_variable s t k over none i = subst (Subtype w (erased s)) (sym (ap erased i ∙ erased_variable k)) (go over.0 s over.1 none)
    where
      go : (n : ℕ) (s : JavaType) → IsTypeOver w n s → ((p : Primitive) → s ≡ ty.Prim p → ⊥) → Subtype w (erased s) object_type
      go n s (a_primitive p) none = absurd (none p refl)
      go n s the_null none = subst (λ s. Subtype w s object_type) (sym erased_null) (null (of_class 0 []))
      go n s (a_class at counts refs parts) none = object (refers_on w n s (a_class at counts refs parts) (of_class _ _))
      go n s (a_variable lt) none = object (refers_on w n s (a_variable lt) (of_variable _))
      go n s (an_array some part) none = object (refers_on w n s (an_array some part) (of_array _))

  -- below an array's erasure

  pub null_below_array : (s t y : JavaType) → s ≡ ty.Null → t ≡ ty.Array y → Subtype w (erased s) (erased t)
  null_below_array s t y e i = subst (λ s. Subtype w s (erased t)) (sym (ap erased e ∙ erased_null)) (subst (Subtype w ty.Null) (sym (ap erased i ∙ erased_array y)) (null (of_array _)))

  pub below_array_not : (s t y : JavaType) → IsOfWorld w s → (s ≡ ty.Null → ⊥) → ((x : JavaType) → s ≡ ty.Array x → ⊥) → t ≡ ty.Array y → Subtype w (erased s) (erased t) → ⊥
  below_array_not s t y over some none i h = go over.0 s over.1 some none (subst (Subtype w (erased s)) (ap erased i ∙ erased_array y) h)
    where
      go : (n : ℕ) (s : JavaType) → IsTypeOver w n s → (s ≡ ty.Null → ⊥) → ((x : JavaType) → s ≡ ty.Array x → ⊥) → Subtype w (erased s) (ty.Array (erased y)) → ⊥
      go n s (a_primitive p) some none h = by.above_primitive_not w sound (erased s) (ty.Array (erased y)) p (erased_primitive p) (λ q e. cc (primitive_kind q, array_kind (erased y), e)) h
      go n s the_null some none h = some refl
      go n s (a_class {c = c} {args = xs} {info = info} at counts refs parts) some none h =
          by.above_class_not w sound c [] (ty.Array (erased y)) (n, bare_over w n c info at) (λ g ys e. cc (class_kind g ys, array_kind (erased y), e))
          (subst (λ s. Subtype w s (ty.Array (erased y))) (erased_class c xs) h)
      go n s (a_variable {k = k} lt) some none h =
          let top : ty.Array (erased y) ≡ object_type = orders.object_above w sups (erased s) (ty.Array (erased y)) h (erased_variable k) in
          cc (class_kind 0 [], array_kind (erased y), top)
      go n s (an_array {element = x} some' part) some none h = none x refl

  pub both_arrays : (r : Bool) (s t x y : JavaType) → s ≡ ty.Array x → t ≡ ty.Array y → IsOfWorld w x → IsOfWorld w y → IsReference x → IsReference y
      → IsTrue r ↔ Subtype w (erased x) (erased y) → IsTrue r ↔ Subtype w (erased s) (erased t)
  both_arrays r s t x y e i hx hy rx ry told =
      by.between_arrays w sound r (erased s) (erased t) (erased x) (erased y) (ap erased e ∙ erased_array x) (ap erased i ∙ erased_array y) (refers_on w hx.0 x hx.1 rx) (refers_on w hy.0 y hy.1 ry) told

  pub other_arrays : (r : Bool) (s t x y : JavaType) → s ≡ ty.Array x → t ≡ ty.Array y → IsOfWorld w x → IsOfWorld w y → (IsReference x × IsReference y → ⊥)
      → IsTrue r ↔ (x ≡ y) → IsTrue r ↔ Subtype w (erased s) (erased t)
  other_arrays r s t x y e i hx hy none told =
      by.between_other_arrays w sound r (erased s) (erased t) (erased x) (erased y) (ap erased e ∙ erased_array x) (ap erased i ∙ erased_array y)
      (λ refs. none (refers_back w hx.0 x hx.1 refs.0, refers_back w hy.0 y hy.1 refs.1))
      (λ h. ap erased (told.0 h), λ h. told.1 (same_erased w hx.0 hy.0 x y hx.1 hy.1 none h))

-- casts, by their reasons

abbrev pub Reasons : World → JavaType → JavaType → Type 0
Reasons w s t =
    Subtype w (erased s) (erased t) ⊎ Subtype w (erased t) (erased s)
    ⊎ ((c : ℕ) × (d : ℕ) × (xs : List JavaType) × (ys : List JavaType) × (s ≡ ty.Class c xs) × (t ≡ ty.Class d ys) × AreCastableClasses w c d)
    ⊎ ((x : JavaType) × (y : JavaType) × (s ≡ ty.Array x) × (t ≡ ty.Array y) × IsReference x × IsReference y × Castable w x y)

reasons : (w : World) (s t : JavaType) → Castable w s t → Reasons w s t
reasons w s t (down h) = inl h
reasons w s t (up h) = inr (inl h)
reasons w s t (interfaces {c = c} {d = d} xs ys h k) = inr (inr (inl (c, d, xs, ys, refl, refl, inl (h, inl k))))
reasons w s t (to_interface {c = c} {d = d} xs ys h k) = inr (inr (inl (c, d, xs, ys, refl, refl, inr (h, k))))
reasons w s t (from_interface {c = c} {d = d} xs ys h k) = inr (inr (inl (c, d, xs, ys, refl, refl, inl (h, inr k))))
reasons w s t (arrays {s = x} {t = y} r r' h) = inr (inr (inr (x, y, refl, refl, r, r', h)))

of_classes : (w : World) (s t : JavaType) (c d : ℕ) (xs ys : List JavaType) → s ≡ ty.Class c xs → t ≡ ty.Class d ys → AreCastableClasses w c d → Castable w s t
of_classes w s t c d xs ys e i h = subst (λ s. Castable w s t) (sym e) (subst (Castable w (ty.Class c xs)) (sym i) (elim h [
  | inl k ↦ elim k.1 [ inl m ↦ interfaces xs ys k.0 m | inr m ↦ from_interface xs ys k.0 m ]
  | inr k ↦ to_interface xs ys k.0 k.1
]))

pub classes_told : (w : World) (r : Bool) (s t : JavaType) (c d : ℕ) (xs ys : List JavaType) → s ≡ ty.Class c xs → t ≡ ty.Class d ys
    → (Subtype w (erased s) (erased t) → ⊥) → (Subtype w (erased t) (erased s) → ⊥) → IsTrue r ↔ AreCastableClasses w c d → IsTrue r ↔ Castable w s t
classes_told w r s t c d xs ys e i low high told = (
  λ h. of_classes w s t c d xs ys e i (told.0 h),
  λ h. elim (reasons w s t h) [
    | inl k ↦ absurd (low k)
    | inr (inl k) ↦ absurd (high k)
    | inr (inr (inl k)) ↦
        let one = (same_class c k.0 xs k.2 (sym e ∙ k.4)).0 in
        let two = (same_class d k.1 ys k.3 (sym i ∙ k.5)).0 in
        told.1 (subst (λ c. AreCastableClasses w c d) (sym one) (subst (AreCastableClasses w k.0) (sym two) k.6))
    | inr (inr (inr k)) ↦ absurd (cc (class_kind c xs, array_kind k.0, sym e ∙ k.2))
  ],
)

pub arrays_told : (w : World) (r : Bool) (s t x y : JavaType) → s ≡ ty.Array x → t ≡ ty.Array y → (Subtype w (erased s) (erased t) → ⊥) → (Subtype w (erased t) (erased s) → ⊥)
    → IsReference x → IsReference y → IsTrue r ↔ Castable w x y → IsTrue r ↔ Castable w s t
arrays_told w r s t x y e i low high rx ry told = (
  λ h. subst (λ s. Castable w s t) (sym e) (subst (Castable w (ty.Array x)) (sym i) (arrays rx ry (told.0 h))),
  λ h. elim (reasons w s t h) [
    | inl k ↦ absurd (low k)
    | inr (inl k) ↦ absurd (high k)
    | inr (inr (inl k)) ↦ absurd (cc (class_kind k.0 k.2, array_kind x, sym k.4 ∙ e))
    | inr (inr (inr k)) ↦
        let one = same_element k.0 x (sym k.2 ∙ e) in
        let two = same_element k.1 y (sym k.3 ∙ i) in
        told.1 (subst (λ x. Castable w x y) one (subst (Castable w k.0) two k.6))
  ],
)

-- no cast, where the two are not two classes and not two arrays of references
pub cast_not : (w : World) (s t : JavaType) → (Subtype w (erased s) (erased t) → ⊥) → (Subtype w (erased t) (erased s) → ⊥)
    → ((c d : ℕ) (xs ys : List JavaType) → s ≡ ty.Class c xs → t ≡ ty.Class d ys → ⊥) → ((x y : JavaType) → s ≡ ty.Array x → t ≡ ty.Array y → IsReference x → IsReference y → ⊥)
    → Castable w s t → ⊥
cast_not w s t low high classes both h = elim (reasons w s t h) [
  | inl k ↦ low k
  | inr (inl k) ↦ high k
  | inr (inr (inl k)) ↦ classes k.0 k.1 k.2 k.3 k.4 k.5
  | inr (inr (inr k)) ↦ both k.0 k.1 k.2 k.3 k.4 k.5
]

pub referred : (x y : JavaType) → x ≡ y → IsReference y → IsReference x
referred x y e r = subst IsReference (sym e) r

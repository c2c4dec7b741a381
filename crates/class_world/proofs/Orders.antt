-- What is above a type of each form, and how the order goes with arguments put for variables.
use Rattle.std.proofs.Common.{◌≡◌, ℕ, ◌<◌, ◌≤◌, List, [], Some, ◌⊎◌, inl, inr, Bool, true, false, map, refl, sym, ap, ◌∙◌, subst, length, arith}
use Rattle.std.specs.Prelude.{slice_get}
use Rattle.java_tree.specs.declared.tree.Primitive.{Primitive}
use Rattle.java_tree.specs.declared.tree.Primitive.TheVariants as prim
use Rattle.class_world.specs.declared.world.World.{World}
use Rattle.class_world.specs.declared.world.TypeInfo.{TypeInfo}
use Rattle.class_world.specs.declared.world.JavaType.{JavaType}
use Rattle.class_world.specs.declared.world.JavaType.TheVariants as ty
use Rattle.class_world.specs.Types.{object_type, substitute, erased, with_own, IsReference, of_class, of_variable, of_array, AreReferences, IsTypeOver, a_primitive, the_null, a_class, a_variable, an_array}
use Rattle.class_world.specs.Subtypes.{Subtype, same, through, declared, object, raw, null, arrays, char_int, int_long, IsDeclaredSuper, IsSeenAs}
use Rattle.class_world.specs.Sound.{AreSupers, HaveClassSupers, IsClassOver}
use Rattle.class_world.proofs.Forms.{primitive_kind, null_kind, class_kind, variable_kind, array_kind, same_primitive, same_element, same_class, primitive_refers_not, null_refers_not}
use Rattle.std.proofs.lemmas.Option.{slice_get_within}
use Rattle.class_world.proofs.Substs as sub
use Rattle.class_world.proofs.Substs.{put_class, put_closed, put_twice, put_own, put_refers, mapped_refer, mapped_at, erased_class, length_map, none_left, variables_length, variables_at}

-- the parts of a class type of the world
pub class_parts : (w : World) (n : ℕ) (t : JavaType) (c : ℕ) (xs : List JavaType) → IsTypeOver w n t → t ≡ ty.Class c xs
    → (info : TypeInfo) × (slice_get w.types c ≡ Some info) × ((xs ≡ []) ⊎ (length xs ≡ info.params)) × AreReferences xs × ((k : ℕ) (a : JavaType) → slice_get xs k ≡ Some a → IsTypeOver w n a)
class_parts w n t c xs (a_primitive p) e = absurd (cc (primitive_kind p, class_kind c xs, e))
class_parts w n t c xs the_null e = absurd (cc (null_kind, class_kind c xs, e))
class_parts w n t c xs (a_variable {k = k} lt) e = absurd (cc (variable_kind k, class_kind c xs, e))
class_parts w n t c xs (an_array {element = x} some part) e = absurd (cc (array_kind x, class_kind c xs, e))
class_parts w n t c xs (a_class {c = d} {args = ys} {info = info} at counts refs parts) e =
    let same = same_class d c ys xs e in (
      info,
      subst (λ c. slice_get w.types c ≡ Some info) same.0 at,
      subst (λ xs. (xs ≡ []) ⊎ (length xs ≡ info.params)) same.1 counts,
      subst AreReferences same.1 refs,
      subst (λ xs. (k : ℕ) (a : JavaType) → slice_get xs k ≡ Some a → IsTypeOver w n a) same.1 parts,
    )

-- arguments of the world put for the variables of a type of the world
pub put_over : (w : World) (n m : ℕ) (args : List JavaType) (t : JavaType) → length args ≡ n → AreReferences args → ((k : ℕ) (a : JavaType) → slice_get args k ≡ Some a → IsTypeOver w m a)
    → IsTypeOver w n t → IsTypeOver w m (substitute args t)
put_over w n m args t len refs over (a_primitive p) = subst (IsTypeOver w m) (sym (sub.put_primitive args p)) (a_primitive p)
put_over w n m args t len refs over the_null = subst (IsTypeOver w m) (sym (sub.put_null args)) the_null
put_over w n m args t len refs over (a_class {c = c} {args = xs} {info = info} at counts all parts) =
    subst (IsTypeOver w m) (sym (put_class args c xs)) (a_class at
    (elim counts [ inl none ↦ inl (ap (map (substitute args)) none) | inr count ↦ inr (length_map (substitute args) xs ∙ count) ])
    (mapped_refer args xs refs all)
    (λ k y e. let i = mapped_at (substitute args) xs k y e in subst (IsTypeOver w m) (sym i.2) (put_over w n m args i.0 len refs over (parts k i.0 i.1))))
put_over w n m args t len refs over (a_variable {k = k} lt) =
    let at = sub.there_is args k (omega (arith, lt, len)) in
    subst (IsTypeOver w m) (sym (sub.put_at args k at.0 at.1)) (over k at.0 at.1)
put_over w n m args t len refs over (an_array {element = x} some part) =
    subst (IsTypeOver w m) (sym (sub.put_array args x)) (an_array (no_null x part some) (put_over w n m args x len refs over part))
  where
    -- no form but the null type becomes the null type
    no_null : (x : JavaType) → IsTypeOver w n x → (x ≡ ty.Null → ⊥) → substitute args x ≡ ty.Null → ⊥
    no_null x (a_primitive p) some e = absurd (cc (primitive_kind p, null_kind, sym (sub.put_primitive args p) ∙ e))
    no_null x the_null some e = some refl
    no_null x (a_class {c = c} {args = xs} at counts all parts) some e = null_refers_not _ (put_refers args _ refs (of_class c xs)) e
    no_null x (a_variable {k = k} lt) some e = null_refers_not _ (put_refers args _ refs (of_variable k)) e
    no_null x (an_array {element = y} some' part) some e = null_refers_not _ (put_refers args _ refs (of_array y)) e

-- a type over fewer variables is one over more
pub over_more : (w : World) (n m : ℕ) (t : JavaType) → n ≤ m → IsTypeOver w n t → IsTypeOver w m t
over_more w n m t le (a_primitive p) = a_primitive p
over_more w n m t le the_null = the_null
over_more w n m t le (a_class at counts refs parts) = a_class at counts refs (λ k x e. over_more w n m x le (parts k x e))
over_more w n m t le (a_variable lt) = a_variable (omega (arith, lt, le))
over_more w n m t le (an_array {element = x} some part) = an_array some (over_more w n m x le part)

-- a class with its own variables is a type of the world
pub own_over : (w : World) (c : ℕ) (info : TypeInfo) → slice_get w.types c ≡ Some info → IsTypeOver w info.params (with_own c info.params)
own_over w c info at = a_class at (inr (variables_length 0 info.params))
    (λ k a e. subst IsReference (sym (variables_at 0 info.params k a e).0) (of_variable _))
    (λ k a e. let h = variables_at 0 info.params k a e in subst (IsTypeOver w info.params) (sym h.0) (a_variable (omega (arith, h.1))))

-- a class without arguments is a type of the world
pub bare_over : (w : World) (n c : ℕ) (info : TypeInfo) → slice_get w.types c ≡ Some info → IsTypeOver w n (ty.Class c [])
bare_over w n c info at = a_class at (inl refl) (λ k a e. absurd (cc e)) (λ k a e. absurd (cc e))

-- where there is a class, there is Object
pub object_over : (w : World) (n c : ℕ) (info : TypeInfo) → slice_get w.types c ≡ Some info → IsTypeOver w n object_type
object_over w n c info at =
    let lt : c < length w.types = slice_get_within w.types c info at in
    let top = sub.there_is w.types 0 (omega (arith, lt)) in
    bare_over w n 0 top.0 top.1

-- what a declared supertype is for a type keeps its class
pub seen_class : (n : ℕ) (zs : List JavaType) (d t : JavaType) (g : ℕ) (ys : List JavaType) → d ≡ ty.Class g ys → IsSeenAs n zs d t → (us : List JavaType) × (t ≡ ty.Class g us)
seen_class n zs d t g ys shape (inl plain) = (map (substitute zs) ys, plain.1 ∙ ap (substitute zs) shape ∙ put_class zs g ys)
seen_class n zs d t g ys shape (inr bare) = ([], bare.2 ∙ ap erased shape ∙ erased_class g ys)

-- the primitive types above one
abbrev pub widens : Primitive → Primitive → Bool
widens prim.Char prim.Char = true
widens prim.Char prim.Int = true
widens prim.Char prim.Long = true
widens prim.Int prim.Int = true
widens prim.Int prim.Long = true
widens prim.Long prim.Long = true
widens prim.Boolean prim.Boolean = true
widens _ _ = false

widens_same : (p : Primitive) → widens p p ≡ true
widens_same prim.Char = refl
widens_same prim.Int = refl
widens_same prim.Long = refl
widens_same prim.Boolean = refl

widens_on : (p q r : Primitive) → widens p q ≡ true → widens q r ≡ true → widens p r ≡ true
widens_on prim.Char prim.Char r h k = k
widens_on prim.Char prim.Int prim.Int h k = refl
widens_on prim.Char prim.Int prim.Long h k = refl
widens_on prim.Char prim.Int prim.Char h k = absurd (cc k)
widens_on prim.Char prim.Int prim.Boolean h k = absurd (cc k)
widens_on prim.Char prim.Long prim.Long h k = refl
widens_on prim.Char prim.Long prim.Int h k = absurd (cc k)
widens_on prim.Char prim.Long prim.Char h k = absurd (cc k)
widens_on prim.Char prim.Long prim.Boolean h k = absurd (cc k)
widens_on prim.Char prim.Boolean r h k = absurd (cc h)
widens_on prim.Int prim.Int r h k = k
widens_on prim.Int prim.Long prim.Long h k = refl
widens_on prim.Int prim.Long prim.Int h k = absurd (cc k)
widens_on prim.Int prim.Long prim.Char h k = absurd (cc k)
widens_on prim.Int prim.Long prim.Boolean h k = absurd (cc k)
widens_on prim.Int prim.Char r h k = absurd (cc h)
widens_on prim.Int prim.Boolean r h k = absurd (cc h)
widens_on prim.Long prim.Long r h k = k
widens_on prim.Long prim.Int r h k = absurd (cc h)
widens_on prim.Long prim.Char r h k = absurd (cc h)
widens_on prim.Long prim.Boolean r h k = absurd (cc h)
widens_on prim.Boolean prim.Boolean r h k = k
widens_on prim.Boolean prim.Int r h k = absurd (cc h)
widens_on prim.Boolean prim.Char r h k = absurd (cc h)
widens_on prim.Boolean prim.Long r h k = absurd (cc h)

-- supertypes that are not raw are class types
pub class_supers : (w : World) → AreSupers w → HaveClassSupers w
class_supers w sound = record { top = sound.top; supers = λ c info d at h. let sup = sound.supers c info d at h in (sup.0, (sup.1.0, sup.1.1, sup.1.3)) }

-- a declared supertype is a class type over the same variables
pub declared_over : (w : World) (sups : HaveClassSupers w) (n c : ℕ) (xs : List JavaType) (t : JavaType) → IsTypeOver w n (ty.Class c xs) → IsDeclaredSuper w c xs t → IsClassOver w n t
declared_over w sups n c xs t over h =
    let parts = class_parts w n (ty.Class c xs) c xs over refl in
    let sup = sups.supers c h.0 h.2 h.1 (h.0, h.1, h.3, h.4) in
    elim h.5 [
      | inl plain ↦
          let shape : t ≡ ty.Class sup.1.0 (map (substitute xs) sup.1.1) = plain.1 ∙ ap (substitute xs) sup.1.2 ∙ put_class xs sup.1.0 sup.1.1 in
          (subst (IsTypeOver w n) (sym plain.1) (put_over w h.0.params n xs h.2 plain.0 parts.3 parts.4 sup.0), (sup.1.0, _, shape))
      | inr bare ↦
          let shape : t ≡ ty.Class sup.1.0 [] = bare.2 ∙ ap erased sup.1.2 ∙ erased_class sup.1.0 sup.1.1 in
          let class = class_parts w h.0.params h.2 sup.1.0 sup.1.1 sup.0 sup.1.2 in
          (subst (IsTypeOver w n) (sym shape) (bare_over w n sup.1.0 class.0 class.1), (sup.1.0, [], shape))
    ]

module _ (w : World) (sups : HaveClassSupers w) where
  -- a declared supertype is a class type over the same variables
  pub declared_above : (n c : ℕ) (xs : List JavaType) (t : JavaType) → IsTypeOver w n (ty.Class c xs) → IsDeclaredSuper w c xs t
      → ((g : ℕ) × (ys : List JavaType) × (t ≡ ty.Class g ys)) × IsTypeOver w n t
  declared_above n c xs t over h = let up = declared_over w sups n c xs t over h in (up.1, up.0)

  -- what is above a class type over some variables is a class type over them
  pub class_above : (n : ℕ) (s t : JavaType) → Subtype w s t → (c : ℕ) (xs : List JavaType) → s ≡ ty.Class c xs → IsTypeOver w n s
      → ((g : ℕ) × (ys : List JavaType) × (t ≡ ty.Class g ys)) × IsTypeOver w n t
  class_above n s t same c xs e over = ((c, xs, e), over)
  class_above n s t (through {m = m} a b) c xs e over =
      let low = class_above n s m a c xs e over in
      class_above n m t b low.0.0 low.0.1 low.0.2 low.1
  class_above n s t (declared {c = d} {args = zs} h) c xs e over = declared_above n d zs t over h
  class_above n s t (object r) c xs e over = let parts = class_parts w n s c xs over e in ((0, [], refl), object_over w n c parts.0 parts.1)
  class_above n s t (raw d zs) c xs e over = let parts = class_parts w n s d zs over refl in ((d, [], refl), bare_over w n d parts.0 parts.1)
  class_above n s t (null r) c xs e over = absurd (cc (null_kind, class_kind c xs, e))
  class_above n s t (arrays {s = x} r r' h) c xs e over = absurd (cc (array_kind x, class_kind c xs, e))
  class_above n s t char_int c xs e over = absurd (cc (primitive_kind prim.Char, class_kind c xs, e))
  class_above n s t int_long c xs e over = absurd (cc (primitive_kind prim.Int, class_kind c xs, e))

  -- no type but itself is above Object
  pub object_above : (s t : JavaType) → Subtype w s t → s ≡ object_type → t ≡ object_type
  object_above s t same e = e
  object_above s t (through {m = m} a b) e = object_above m t b (object_above s m a e)
  object_above s t (declared {c = d} {args = zs} h) e =
      let zero_is : d ≡ 0 = (same_class d 0 zs [] e).0 in
      let none = (sups.top h.0 (subst (λ c. slice_get w.types c ≡ Some h.0) zero_is h.1)).1 in
      absurd (cc (ap (λ xs. slice_get xs h.3) none, h.4))
  object_above s t (object r) e = refl
  object_above s t (raw d zs) e = ap (λ c. ty.Class c []) (same_class d 0 zs [] e).0
  object_above s t (null r) e = absurd (cc (null_kind, class_kind 0 [], e))
  object_above s t (arrays {s = x} r r' h) e = absurd (cc (array_kind x, class_kind 0 [], e))
  object_above s t char_int e = absurd (cc (primitive_kind prim.Char, class_kind 0 [], e))
  object_above s t int_long e = absurd (cc (primitive_kind prim.Int, class_kind 0 [], e))

  -- above a type variable are itself and Object
  pub variable_above : (s t : JavaType) → Subtype w s t → (k : ℕ) → s ≡ ty.Var k → (t ≡ s) ⊎ (t ≡ object_type)
  variable_above s t same k e = inl refl
  variable_above s t (through {m = m} a b) k e =
      elim (variable_above s m a k e) [
        | inl low ↦ elim (variable_above m t b k (low ∙ e)) [ inl high ↦ inl (high ∙ low) | inr top ↦ inr top ]
        | inr top ↦ inr (object_above m t b top)
      ]
  variable_above s t (declared {c = d} {args = zs} h) k e = absurd (cc (class_kind d zs, variable_kind k, e))
  variable_above s t (object r) k e = inr refl
  variable_above s t (raw d zs) k e = absurd (cc (class_kind d zs, variable_kind k, e))
  variable_above s t (null r) k e = absurd (cc (null_kind, variable_kind k, e))
  variable_above s t (arrays {s = x} r r' h) k e = absurd (cc (array_kind x, variable_kind k, e))
  variable_above s t char_int k e = absurd (cc (primitive_kind prim.Char, variable_kind k, e))
  variable_above s t int_long k e = absurd (cc (primitive_kind prim.Int, variable_kind k, e))

  -- above an array are itself, Object, and the arrays of what is above its element, where both elements are references
  abbrev pub AboveArray : JavaType → JavaType → Type 0
  AboveArray x t = (t ≡ ty.Array x) ⊎ (t ≡ object_type) ⊎ ((y : JavaType) × (t ≡ ty.Array y) × IsReference x × IsReference y × Subtype w x y)

  pub array_above : (s t : JavaType) → Subtype w s t → (x : JavaType) → s ≡ ty.Array x → AboveArray x t
  array_above s t same x e = inl e
  array_above s t (through {m = m} a b) x e =
      elim (array_above s m a x e) [
        | inl low ↦ array_above m t b x low
        | inr (inl top) ↦ inr (inl (object_above m t b top))
        | inr (inr h) ↦
            elim (array_above m t b h.0 h.1) [
              | inl high ↦ inr (inr (h.0, high, h.2, h.3, h.4))
              | inr (inl top) ↦ inr (inl top)
              | inr (inr k) ↦ inr (inr (k.0, k.1, h.2, k.3, through h.4 k.4))
            ]
      ]
  array_above s t (declared {c = d} {args = zs} h) x e = absurd (cc (class_kind d zs, array_kind x, e))
  array_above s t (object r) x e = inr (inl refl)
  array_above s t (raw d zs) x e = absurd (cc (class_kind d zs, array_kind x, e))
  array_above s t (null r) x e = absurd (cc (null_kind, array_kind x, e))
  array_above s t (arrays {s = y} {t = z} r r' h) x e =
      let is : y ≡ x = same_element y x e in
      inr (inr (z, refl, subst IsReference is r, r', subst (λ y. Subtype w y z) is h))
  array_above s t char_int x e = absurd (cc (primitive_kind prim.Char, array_kind x, e))
  array_above s t int_long x e = absurd (cc (primitive_kind prim.Int, array_kind x, e))

  -- above a reference type are reference types alone
  pub reference_above : (s t : JavaType) → Subtype w s t → IsReference s → IsReference t
  reference_above s t same r = r
  reference_above s t (through {m = m} a b) r = reference_above m t b (reference_above s m a r)
  reference_above s t (declared {c = d} {args = zs} h) r =
      let sup = sups.supers d h.0 h.2 h.1 (h.0, h.1, h.3, h.4) in
      elim h.5 [
        | inl plain ↦ subst IsReference (sym (plain.1 ∙ ap (substitute zs) sup.1.2 ∙ put_class zs sup.1.0 sup.1.1)) (of_class _ _)
        | inr bare ↦ subst IsReference (sym (bare.2 ∙ ap erased sup.1.2 ∙ erased_class sup.1.0 sup.1.1)) (of_class _ _)
      ]
  reference_above s t (object r') r = of_class _ _
  reference_above s t (raw c xs) r = of_class _ _
  reference_above s t (null r') r = r'
  reference_above s t (arrays r' r'' h) r = of_array _
  reference_above s t char_int r = absurd (primitive_refers_not _ prim.Char r refl)
  reference_above s t int_long r = absurd (primitive_refers_not _ prim.Int r refl)

  -- above the null type are itself and the reference types
  pub null_above : (s t : JavaType) → Subtype w s t → s ≡ ty.Null → (t ≡ ty.Null) ⊎ IsReference t
  null_above s t same e = inl e
  null_above s t (through {m = m} a b) e = elim (null_above s m a e) [ inl low ↦ null_above m t b low | inr r ↦ inr (reference_above m t b r) ]
  null_above s t (declared {c = d} {args = zs} h) e = absurd (cc (class_kind d zs, null_kind, e))
  null_above s t (object r) e = inr (of_class _ _)
  null_above s t (raw d zs) e = inr (of_class _ _)
  null_above s t (null r) e = inr r
  null_above s t (arrays {s = x} r r' h) e = absurd (cc (array_kind x, null_kind, e))
  null_above s t char_int e = absurd (cc (primitive_kind prim.Char, null_kind, e))
  null_above s t int_long e = absurd (cc (primitive_kind prim.Int, null_kind, e))

  pub primitive_above : (s t : JavaType) → Subtype w s t → (p : Primitive) → s ≡ ty.Prim p → (q : Primitive) × (t ≡ ty.Prim q) × (widens p q ≡ true)
  primitive_above s t same p e = (p, e, widens_same p)
  primitive_above s t (through {m = m} a b) p e =
      let low = primitive_above s m a p e in
      let high = primitive_above m t b low.0 low.1 in
      (high.0, high.1, widens_on p low.0 high.0 low.2 high.2)
  primitive_above s t (declared {c = d} {args = zs} h) p e = absurd (cc (class_kind d zs, primitive_kind p, e))
  primitive_above s t (object r) p e = absurd (primitive_refers_not s p r e)
  primitive_above s t (raw d zs) p e = absurd (cc (class_kind d zs, primitive_kind p, e))
  primitive_above s t (null r) p e = absurd (cc (null_kind, primitive_kind p, e))
  primitive_above s t (arrays {s = x} r r' h) p e = absurd (cc (array_kind x, primitive_kind p, e))
  primitive_above s t char_int p e = (prim.Int, refl, subst (λ p. widens p prim.Int ≡ true) (same_primitive prim.Char p e) refl)
  primitive_above s t int_long p e = (prim.Long, refl, subst (λ p. widens p prim.Long ≡ true) (same_primitive prim.Int p e) refl)

  pub primitive_below : (p q : Primitive) → widens p q ≡ true → Subtype w (ty.Prim p) (ty.Prim q)
  primitive_below prim.Char prim.Char h = same
  primitive_below prim.Char prim.Int h = char_int
  primitive_below prim.Char prim.Long h = through char_int int_long
  primitive_below prim.Char prim.Boolean h = absurd (cc h)
  primitive_below prim.Int prim.Int h = same
  primitive_below prim.Int prim.Long h = int_long
  primitive_below prim.Int prim.Char h = absurd (cc h)
  primitive_below prim.Int prim.Boolean h = absurd (cc h)
  primitive_below prim.Long prim.Long h = same
  primitive_below prim.Long prim.Int h = absurd (cc h)
  primitive_below prim.Long prim.Char h = absurd (cc h)
  primitive_below prim.Long prim.Boolean h = absurd (cc h)
  primitive_below prim.Boolean prim.Boolean h = same
  primitive_below prim.Boolean prim.Int h = absurd (cc h)
  primitive_below prim.Boolean prim.Char h = absurd (cc h)
  primitive_below prim.Boolean prim.Long h = absurd (cc h)

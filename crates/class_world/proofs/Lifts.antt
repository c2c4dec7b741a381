-- How the order goes with arguments put for variables, and with the arguments left away.
use Rattle.std.proofs.Common.{◌≡◌, ℕ, ◌<◌, zero, suc, List, [], ◌∷◌, Some, inl, inr, map, refl, sym, ap, ◌∙◌, subst, length, arith}
use Rattle.std.specs.Prelude.{slice_get}
use Rattle.java_tree.specs.declared.tree.Primitive.TheVariants as prim
use Rattle.class_world.specs.declared.world.World.{World}
use Rattle.class_world.specs.declared.world.TypeInfo.{TypeInfo}
use Rattle.class_world.specs.declared.world.JavaType.{JavaType}
use Rattle.class_world.specs.declared.world.JavaType.TheVariants as ty
use Rattle.class_world.specs.Types.{substitute, erased, variables, with_own, of_class, AreReferences, IsTypeOver}
use Rattle.class_world.specs.Subtypes.{Subtype, same, through, declared, object, raw, null, arrays, char_int, int_long, IsDeclaredSuper, IsSeenAs, Parameterizes}
use Rattle.class_world.specs.Sound.{HaveClassSupers, IsSingle}
use Rattle.class_world.specs.Climbs.{HasBase, IsGeneric}
use Rattle.class_world.proofs.Forms.{primitive_kind, null_kind, class_kind, array_kind, same_class}
use Rattle.class_world.proofs.Substs.{put_primitive, put_null, put_class, put_array, put_twice, put_own, put_refers, erased_class, length_map, none_left}
use Rattle.class_world.proofs.Orders.{class_parts, bare_over, object_over, own_over, declared_above, class_above}

module _ (w : World) (sups : HaveClassSupers w) where
  both : {s s' t t' : JavaType} → s' ≡ s → t' ≡ t → Subtype w s t → Subtype w s' t'
  both {s = s} {s' = s'} {t = t} {t' = t'} e f h = subst (λ s. Subtype w s t') (sym e) (subst (Subtype w s) (sym f) h)

  -- the order stays where references are put for variables
  pub put_below : (args : List JavaType) → AreReferences args → (s t : JavaType) → Subtype w s t → Subtype w (substitute args s) (substitute args t)
  put_below args refs s t same = same
  put_below args refs s t (through {m = m} a b) = through (put_below args refs s m a) (put_below args refs m t b)
  put_below args refs s t (declared {c = c} {args = xs} h) =
      let sup = sups.supers c h.0 h.2 h.1 (h.0, h.1, h.3, h.4) in
      let shape : erased h.2 ≡ ty.Class sup.1.0 [] = ap erased sup.1.2 ∙ erased_class sup.1.0 sup.1.1 in
      let seen : IsSeenAs h.0.params (map (substitute args) xs) h.2 (substitute args t) = elim h.5 [
        | inl plain ↦ inl (length_map (substitute args) xs ∙ plain.0, ap (substitute args) plain.1 ∙ put_twice w h.0.params args xs h.2 plain.0 sup.0)
        | inr bare ↦ inr (ap (map (substitute args)) bare.0, bare.1, ap (substitute args) (bare.2 ∙ shape) ∙ put_class args sup.1.0 [] ∙ sym shape)
      ] in
      both (put_class args c xs) refl (declared (h.0, h.1, h.2, h.3, h.4, seen))
  put_below args refs s t (object r) = both refl (put_class args 0 []) (object (put_refers args s refs r))
  put_below args refs s t (raw c xs) = both (put_class args c xs) (put_class args c []) (raw _ _)
  put_below args refs s t (null r) = both (put_null args) refl (null (put_refers args t refs r))
  put_below args refs s t (arrays {s = x} {t = y} r r' h) = both (put_array args x) (put_array args y) (arrays (put_refers args x refs r) (put_refers args y refs r') (put_below args refs x y h))
  put_below args refs s t char_int = both (put_primitive args prim.Char) (put_primitive args prim.Int) char_int
  put_below args refs s t int_long = both (put_primitive args prim.Int) (put_primitive args prim.Long) int_long

  -- a class type from which arguments make t, above the class type c xs over n variables
  abbrev pub Lifted : ℕ → List JavaType → ℕ → List JavaType → JavaType → Type 0
  Lifted n args c xs t = (g : ℕ) × (ys : List JavaType) × (substitute args (ty.Class g ys) ≡ t) × Subtype w (ty.Class c xs) (ty.Class g ys) × IsTypeOver w n (ty.Class g ys)

  lift_declared : (n : ℕ) (args : List JavaType) (c : ℕ) (xs : List JavaType) (t0 t : JavaType) → IsTypeOver w n (ty.Class c xs) → IsDeclaredSuper w c xs t0
      → substitute args t0 ≡ t → Lifted n args c xs t
  lift_declared n args c xs t0 t over h image =
      let up = declared_above w sups n c xs t0 over h in
      (up.0.0, up.0.1, ap (substitute args) (sym up.0.2) ∙ image, subst (Subtype w (ty.Class c xs)) up.0.2 (declared h), subst (IsTypeOver w n) up.0.2 up.1)

  -- what is above a class type with arguments put for variables comes from a type above the class type itself
  pub lifted : (n : ℕ) (args : List JavaType) → (s t : JavaType) → Subtype w s t → (c : ℕ) (xs : List JavaType) → substitute args (ty.Class c xs) ≡ s
      → IsTypeOver w n (ty.Class c xs) → Lifted n args c xs t
  lifted n args s t same c xs e over = (c, xs, e, same, over)
  lifted n args s t (through {m = m} a b) c xs e over =
      let low = lifted n args s m a c xs e over in
      let high = lifted n args m t b low.0 low.1 low.2 low.4 in
      (high.0, high.1, high.2, through low.3 high.3, high.4)
  lifted n args s t (declared {c = d} {args = zs} h) c xs e over =
      let is = same_class c d (map (substitute args) xs) zs (sym (put_class args c xs) ∙ e) in
      let sup = sups.supers d h.0 h.2 h.1 (h.0, h.1, h.3, h.4) in
      let at : slice_get w.types c ≡ Some h.0 = subst (λ c. slice_get w.types c ≡ Some h.0) (sym is.0) h.1 in
      let shape : erased h.2 ≡ ty.Class sup.1.0 [] = ap erased sup.1.2 ∙ erased_class sup.1.0 sup.1.1 in
      elim h.5 [
        | inl plain ↦
            let len : length xs ≡ h.0.params = sym (length_map (substitute args) xs) ∙ ap length is.1 ∙ plain.0 in
            lift_declared n args c xs (substitute xs h.2) t over (h.0, at, h.2, h.3, h.4, inl (len, refl))
            (put_twice w h.0.params args xs h.2 len sup.0 ∙ ap (λ us. substitute us h.2) is.1 ∙ sym plain.1)
        | inr bare ↦
            let none : xs ≡ [] = none_left (substitute args) xs (is.1 ∙ bare.0) in
            lift_declared n args c xs (erased h.2) t over (h.0, at, h.2, h.3, h.4, inr (none, bare.1, refl))
            (ap (substitute args) shape ∙ put_class args sup.1.0 [] ∙ sym shape ∙ sym bare.2)
      ]
  lifted n args s t (object r) c xs e over =
      let parts = class_parts w n (ty.Class c xs) c xs over refl in
      (0, [], put_class args 0 [], object (of_class _ _), object_over w n c parts.0 parts.1)
  lifted n args s t (raw d zs) c xs e over =
      let parts = class_parts w n (ty.Class c xs) c xs over refl in
      let is = same_class c d (map (substitute args) xs) zs (sym (put_class args c xs) ∙ e) in
      (c, [], put_class args c [] ∙ ap (λ c. ty.Class c []) is.0, raw _ _, bare_over w n c parts.0 parts.1)
  lifted n args s t (null r) c xs e over = absurd (cc (class_kind c (map (substitute args) xs), null_kind, sym (put_class args c xs) ∙ e))
  lifted n args s t (arrays {s = x} r r' h) c xs e over = absurd (cc (class_kind c (map (substitute args) xs), array_kind x, sym (put_class args c xs) ∙ e))
  lifted n args s t char_int c xs e over = absurd (cc (class_kind c (map (substitute args) xs), primitive_kind prim.Char, sym (put_class args c xs) ∙ e))
  lifted n args s t int_long c xs e over = absurd (cc (class_kind c (map (substitute args) xs), primitive_kind prim.Int, sym (put_class args c xs) ∙ e))

  -- the erasure of a declared supertype is above the class without arguments
  pub bare_declared : (c : ℕ) (info : TypeInfo) (d : JavaType) (k : ℕ) → slice_get w.types c ≡ Some info → slice_get info.supers k ≡ Some d
      → (g : ℕ) (ys : List JavaType) → d ≡ ty.Class g ys → Subtype w (ty.Class c []) (ty.Class g [])
  bare_declared c info d k at super g ys shape = go info.params refl
    where
      go : (n : ℕ) → info.params ≡ n → Subtype w (ty.Class c []) (ty.Class g [])
      go zero e = through (both refl (sym (ap (substitute []) shape ∙ put_class [] g ys)) (declared (info, at, d, k, super, inl (sym e, refl)))) (raw _ _)
      go (suc n) e = both refl (sym (ap erased shape ∙ erased_class g ys)) (declared (info, at, d, k, super, inr (refl, omega (arith, e), refl)))

  bare_above : (s t : JavaType) → Subtype w s t → (c : ℕ) (xs : List JavaType) → s ≡ ty.Class c xs
      → (g : ℕ) × (ys : List JavaType) × (t ≡ ty.Class g ys) × Subtype w (ty.Class c []) (ty.Class g [])
  bare_above s t same c xs e = (c, xs, e, same)
  bare_above s t (through {m = m} a b) c xs e =
      let low = bare_above s m a c xs e in
      let high = bare_above m t b low.0 low.1 low.2 in
      (high.0, high.1, high.2, through low.3 high.3)
  bare_above s t (declared {c = d} {args = zs} h) c xs e =
      let is = same_class d c zs xs e in
      let sup = sups.supers d h.0 h.2 h.1 (h.0, h.1, h.3, h.4) in
      let low : Subtype w (ty.Class c []) (ty.Class sup.1.0 []) =
      subst (λ c. Subtype w (ty.Class c []) (ty.Class sup.1.0 [])) is.0 (bare_declared d h.0 h.2 h.3 h.1 h.4 sup.1.0 sup.1.1 sup.1.2) in
      elim h.5 [
        | inl plain ↦ (sup.1.0, _, plain.1 ∙ ap (substitute zs) sup.1.2 ∙ put_class zs sup.1.0 sup.1.1, low)
        | inr bare ↦ (sup.1.0, [], bare.2 ∙ ap erased sup.1.2 ∙ erased_class sup.1.0 sup.1.1, low)
      ]
  bare_above s t (object r) c xs e = (0, [], refl, object (of_class _ _))
  bare_above s t (raw d zs) c xs e = (c, [], ap (λ c. ty.Class c []) (same_class d c zs xs e).0, same)
  bare_above s t (null r) c xs e = absurd (cc (null_kind, class_kind c xs, e))
  bare_above s t (arrays {s = x} r r' h) c xs e = absurd (cc (array_kind x, class_kind c xs, e))
  bare_above s t char_int c xs e = absurd (cc (primitive_kind prim.Char, class_kind c xs, e))
  bare_above s t int_long c xs e = absurd (cc (primitive_kind prim.Int, class_kind c xs, e))

  -- what is above a class with arguments is above it without, arguments left away
  pub bare : (c g : ℕ) (xs ys : List JavaType) → Subtype w (ty.Class c xs) (ty.Class g ys) → Subtype w (ty.Class c []) (ty.Class g [])
  bare c g xs ys h =
      let up = bare_above _ _ h c xs refl in
      subst (λ g. Subtype w (ty.Class c []) (ty.Class g [])) (sym (same_class g up.0 ys up.1 up.2).0) up.3

  -- which classes without arguments are above a class type does not hang on its arguments
  pub bare_alike : (c g : ℕ) (xs ys : List JavaType) → Subtype w (ty.Class c xs) (ty.Class g []) → Subtype w (ty.Class c ys) (ty.Class g [])
  bare_alike c g xs ys h = through (raw _ _) (bare c g xs [] h)

  -- what a type is a parameterization of, it is before arguments are put for its variables
  put_back : (args : List JavaType) (g h : ℕ) (ys : List JavaType) (t : JavaType) → Parameterizes g t → substitute args (ty.Class h ys) ≡ t → Parameterizes g (ty.Class h ys)
  put_back args g h ys t is e =
      let class = same_class h g _ is.0 (sym (put_class args h ys) ∙ e ∙ is.1) in
      (ys, ap (λ g. ty.Class g ys) class.0, λ none. is.2 (sym class.1 ∙ ap (map (substitute args)) none))

  -- no type of a class is below two parameterizations of one class, where the class with its own variables is not
  pub one_base : (k c g : ℕ) (args : List JavaType) (t u : JavaType) → ((info : TypeInfo) → slice_get w.types c ≡ Some info → IsSingle w c info.params) → IsTypeOver w k (ty.Class c args)
      → Parameterizes g t → Parameterizes g u → Subtype w (ty.Class c args) t → Subtype w (ty.Class c args) u → t ≡ u
  one_base k c g args t u single over is_t is_u up_t up_u =
      let parts = class_parts w k (ty.Class c args) c args over refl in
      elim parts.2 [
        | inl none ↦
            let low : (v : JavaType) → Subtype w (ty.Class c args) v → Subtype w (with_own c parts.0.params) v = λ v h. through (raw _ _) (subst (λ xs. Subtype w (ty.Class c xs) v) none h) in
            single parts.0 parts.1 g t u is_t is_u (low t up_t) (low u up_u)
        | inr len ↦
            let image = put_own args c parts.0.params len in
            let own = own_over w c parts.0 parts.1 in
            let a = lifted parts.0.params args _ t up_t c (variables 0 parts.0.params) image own in
            let b = lifted parts.0.params args _ u up_u c (variables 0 parts.0.params) image own in
            let alike = single parts.0 parts.1 g (ty.Class a.0 a.1) (ty.Class b.0 b.1) (put_back args g a.0 a.1 t is_t a.2) (put_back args g b.0 b.1 u is_u b.2) a.3 b.3 in
            sym a.2 ∙ ap (substitute args) alike ∙ b.2
      ]

  -- where a parameterization of g is above a type of a class, one is above the class with its own variables
  pub base_of_own : (k c g : ℕ) (xs : List JavaType) (info : TypeInfo) → IsTypeOver w k (ty.Class c xs) → slice_get w.types c ≡ Some info → HasBase w (ty.Class c xs) g → HasBase w (with_own c info.params) g
  base_of_own k c g xs info over at h =
      let parts = class_parts w k (ty.Class c xs) c xs over refl in
      let alike : parts.0 ≡ info = cc (parts.1, at) in
      elim parts.2 [
        | inl none ↦ (h.0, h.1, through (raw _ _) (subst (λ xs. Subtype w (ty.Class c xs) h.0) none h.2))
        | inr len ↦
            let up = lifted info.params xs _ h.0 h.2 c (variables 0 info.params) (put_own xs c info.params (len ∙ ap (λ (i : TypeInfo). i.params) alike)) (own_over w c info at) in
            (ty.Class up.0 up.1, put_back xs g up.0 up.1 h.0 h.1 up.2, up.3)
      ]

  -- a class of which a parameterization is above a class type is generic
  pub base_generic : (k c g : ℕ) (xs : List JavaType) → IsTypeOver w k (ty.Class c xs) → HasBase w (ty.Class c xs) g → IsGeneric w g
  base_generic k c g xs over h =
      let up = class_above w sups k (ty.Class c xs) h.0 h.2 c xs refl over in
      let parts = class_parts w k h.0 g h.1.0 up.1 h.1.1 in
      (parts.0, parts.1, elim parts.2 [ inl none ↦ absurd (h.1.2 none) | inr len ↦ some_items h.1.0 parts.0.params h.1.2 len ])
    where
      some_items : (xs : List JavaType) (n : ℕ) → (xs ≡ [] → ⊥) → length xs ≡ n → 0 < n
      some_items [] n some e = absurd (some refl)
      some_items (x ∷ xs) n some e = omega (arith, e)

-- The parameterizations above a class type that has all its arguments: one of each generic class that is above.
use Rattle.std.proofs.Common.{◌≡◌, ℕ, List, [], ◌∷◌, Some, ◌⊎◌, inl, inr, map, refl, sym, ap, ◌∙◌, subst, length, arith}
use Rattle.std.specs.Prelude.{slice_get}
use Rattle.std.proofs.lemmas.Option.{slice_get_within}
use Rattle.java_tree.specs.declared.tree.Primitive.TheVariants as prim
use Rattle.class_world.specs.declared.world.World.{World}
use Rattle.class_world.specs.declared.world.TypeInfo.{TypeInfo}
use Rattle.class_world.specs.declared.world.JavaType.{JavaType}
use Rattle.class_world.specs.declared.world.JavaType.TheVariants as ty
use Rattle.class_world.specs.Types.{substitute, erased, of_class}
use Rattle.class_world.specs.Subtypes.{Subtype, same, through, declared, object, raw, null, arrays, char_int, int_long}
use Rattle.class_world.specs.Sound.{AreSupers}
use Rattle.class_world.specs.Climbs.{HasBase, IsGeneric}
use Rattle.class_world.proofs.Forms.{primitive_kind, null_kind, class_kind, array_kind, same_class}
use Rattle.class_world.proofs.Substs.{put_class, erased_class, length_map, there_is}

-- the class with all its arguments
abbrev pub IsFull : World → ℕ → List JavaType → Type 0
IsFull w c xs = (info : TypeInfo) × (slice_get w.types c ≡ Some info) × (length xs ≡ info.params)

no_items : (xs : List JavaType) → length xs ≡ 0 → xs ≡ []
no_items [] e = refl
no_items (x ∷ xs) e = absurd (omega (arith, e))

module _ (w : World) (sound : AreSupers w) where
  -- t, perhaps with its arguments left away, is a class type that has them all and is above the class c with zs
  abbrev IsFullAbove : ℕ → List JavaType → JavaType → Type 0
  IsFullAbove c zs t = (g : ℕ) × (ys : List JavaType) × (us : List JavaType) × (t ≡ ty.Class g ys) × ((ys ≡ []) ⊎ (ys ≡ us)) × IsFull w g us × Subtype w (ty.Class c zs) (ty.Class g us)

  full_above : (s t : JavaType) → Subtype w s t → (c : ℕ) (xs zs : List JavaType) → s ≡ ty.Class c xs → (xs ≡ []) ⊎ (xs ≡ zs) → IsFull w c zs → IsFullAbove c zs t
  full_above s t same c xs zs e part full = (c, xs, zs, e, part, full, same)
  full_above s t (through {m = m} a b) c xs zs e part full =
      let low = full_above s m a c xs zs e part full in
      let high = full_above m t b low.0 low.1 low.2 low.3 low.4 low.5 in
      (high.0, high.1, high.2, high.3, high.4, high.5, through low.6 high.6)
  full_above s t (declared {c = d} {args = vs} h) c xs zs e part full =
      let is = same_class d c vs xs e in
      let sup = sound.supers d h.0 h.2 h.1 (h.0, h.1, h.3, h.4) in
      let at : slice_get w.types c ≡ Some h.0 = ap (slice_get w.types) (sym is.0) ∙ h.1 in
      let info : full.0 ≡ h.0 = cc (full.1, at) in
      let count : length zs ≡ h.0.params = full.2 ∙ ap (λ (i : TypeInfo). i.params) info in
      let us = map (substitute zs) sup.1.1 in
      let shape : substitute zs h.2 ≡ ty.Class sup.1.0 us = ap (substitute zs) sup.1.3 ∙ put_class zs sup.1.0 sup.1.1 in
      let up : Subtype w (ty.Class c zs) (substitute zs h.2) = declared (h.0, at, h.2, h.3, h.4, inl (count, refl)) in
      let all : IsFull w sup.1.0 us = (sup.1.2, sup.1.4, length_map (substitute zs) sup.1.1 ∙ sup.1.5) in
      let high : Subtype w (ty.Class c zs) (ty.Class sup.1.0 us) = subst (Subtype w (ty.Class c zs)) shape up in
      elim h.5 [
        | inl plain ↦
            let alike : vs ≡ zs = is.1 ∙ elim part [ inl none ↦ none ∙ sym (no_items zs (count ∙ sym plain.0 ∙ ap length (is.1 ∙ none))) | inr whole ↦ whole ] in
            (sup.1.0, us, us, plain.1 ∙ ap (λ vs. substitute vs h.2) alike ∙ shape, inr refl, all, high)
        | inr bare ↦ (sup.1.0, [], us, bare.2 ∙ ap erased sup.1.3 ∙ erased_class sup.1.0 sup.1.1, inl refl, all, high)
      ]
  full_above s t (object r) c xs zs e part full =
      let lt = slice_get_within w.types c full.0 full.1 in
      let top = there_is w.types 0 (omega (arith, lt)) in
      (0, [], [], refl, inl refl, (top.0, top.1, sym (sound.top top.0 top.1).0), object (of_class _ _))
  full_above s t (raw d vs) c xs zs e part full = (c, [], zs, ap (λ c. ty.Class c []) (same_class d c vs xs e).0, inl refl, full, same)
  full_above s t (null r) c xs zs e part full = absurd (cc (null_kind, class_kind c xs, e))
  full_above s t (arrays {s = x} r r' h) c xs zs e part full = absurd (cc (array_kind x, class_kind c xs, e))
  full_above s t char_int c xs zs e part full = absurd (cc (primitive_kind prim.Char, class_kind c xs, e))
  full_above s t int_long c xs zs e part full = absurd (cc (primitive_kind prim.Int, class_kind c xs, e))

  pub full_base : (c g : ℕ) (xs : List JavaType) → IsFull w c xs → IsGeneric w g → Subtype w (ty.Class c xs) (ty.Class g []) → HasBase w (ty.Class c xs) g
  full_base c g xs full generic up =
      let high = full_above (ty.Class c xs) (ty.Class g []) up c xs xs refl (inr refl) full in
      let number : high.0 ≡ g = sym (same_class g high.0 [] high.1 high.3).0 in
      let info : high.5.0 ≡ generic.0 = cc (high.5.1, ap (slice_get w.types) number ∙ generic.1) in
      let count : length high.2 ≡ generic.0.params = high.5.2 ∙ ap (λ (i : TypeInfo). i.params) info in
      (ty.Class high.0 high.2, (high.2, ap (λ g. ty.Class g high.2) number, λ none. let empty : length high.2 ≡ 0 = ap length none in omega (arith, empty, count, generic.2)), high.6)

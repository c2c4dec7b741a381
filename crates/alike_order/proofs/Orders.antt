-- Erased types stand to each other as their classes do.
use Rattle.std.proofs.Common.{◌≡◌, ℕ, ◌+◌, ◌<◌, ◌^◌, List, [], None, inl, inr, ◌↔◌, Bool, true, false, refl, sym, ap, ◌∙◌, subst, length, arith}
use Rattle.std.specs.Prelude.{slice_get, IsTrue}
use Rattle.std.proofs.lemmas.Bool.{cases_lt}
use Rattle.std.proofs.lemmas.Option.{slice_get_within, slice_get_past}
use Rattle.java_tree.specs.declared.tree.Primitive.{Primitive}
use Rattle.java_tree.specs.declared.tree.Primitive.TheVariants as prim
use Rattle.class_world.specs.declared.world.World.{World}
use Rattle.class_world.specs.declared.world.JavaType.{JavaType}
use Rattle.class_world.specs.declared.world.JavaType.TheVariants as ty
use Rattle.class_world.specs.Types.{object_type, erased, IsReference, of_class, of_array}
use Rattle.class_world.specs.Subtypes.{Subtype, same, through, declared, object, raw, null, arrays, char_int, int_long, IsDeclaredSuper}
use Rattle.class_world.specs.Sound.{HaveClassSupers, IsSound, IsOfWorld}
use Rattle.class_world.proofs.Forms.{primitive_kind, null_kind, class_kind, array_kind, same_element, same_class, primitive_refers_not, null_refers_not}
use Rattle.class_world.proofs.Substs.{there_is, erased_primitive, erased_null, erased_class, erased_array}
use Rattle.class_world.proofs.Orders as orders
use Rattle.class_world.proofs.Orders.{class_supers, class_parts, bare_over, seen_class}
use Rattle.class_world.proofs.Lifts as lifts
use Rattle.type_kinds.proofs.Worlds as worlds
use Rattle.program_maps.specs.declared.numbers.Numbers.{Numbers}
use Rattle.program_maps.specs.Ways.{goes_to, moved, or_behind}
use Rattle.alike_order.specs.Order.{IsBelow, IsPairKept, KeepsOrder, KeepsOrderTold}
use Rattle.alike_order.proofs.Erased as by
use Rattle.alike_order.proofs.Erased.{IsErased, plain_primitive, plain_null, plain_class, plain_array, is_erased}

-- a class of the world, without arguments
pub bare_known : (w : World) (k : ℕ) → k < length w.types → IsOfWorld w (ty.Class k [])
bare_known w k lt = let at = there_is w.types k lt in (0, bare_over w 0 k at.0 at.1)

known_bare : (w : World) (k : ℕ) (t : JavaType) (xs : List JavaType) → t ≡ ty.Class k xs → IsOfWorld w t → k < length w.types
known_bare w k t xs is h = let parts = class_parts w h.0 t k xs h.1 is in slice_get_within w.types k parts.0 parts.1

module _ (w v : World) (x : Numbers) (sound : IsSound w) (sound_new : IsSound v) (to : length x.to ≡ length w.types) (back : length x.back ≡ length v.types) (top : 0 ≡ goes_to x 0)
    (kept : (k g : ℕ) → k < length w.types → g < length w.types → IsPairKept w v (goes_to x) k g) where
  sups : HaveClassSupers w
  sups = class_supers w sound.declared

  sups_new : HaveClassSupers v
  sups_new = class_supers v sound_new.declared

  abbrev f : ℕ → ℕ
  f = goes_to x

  -- ---- which types are of the worlds

  known_on : (k : ℕ) → k < length w.types → f k < length v.types
  known_on k lt =
      let is = (kept k k lt lt).1 ((bare_known w k lt, bare_known w k lt), same) in
      known_bare v (f k) (ty.Class (f k) []) [] refl is.0.0

  known_back : (k : ℕ) → f k < length v.types → k < length w.types
  known_back k lt = elim (cases_lt k (length w.types)) [
    | inl low ↦ low
    | inr past ↦
        let none : slice_get x.to k ≡ None = slice_get_past x.to k (omega (arith, past, to)) in
        let behind : f k ≡ length x.back + k = ap (or_behind (length x.back + k)) none in
        absurd (omega (arith, lt, behind, back))
  ]

  moved_some : (s : JavaType) → IsErased s → (s ≡ ty.Null → ⊥) → moved f s ≡ ty.Null → ⊥
  moved_some s (plain_primitive p) some e = cc (primitive_kind p, null_kind, sym (by.moved_primitive f p) ∙ e)
  moved_some s plain_null some e = some refl
  moved_some s (plain_class c) some e = cc (class_kind (f c) [], null_kind, sym (by.moved_class f c) ∙ e)
  moved_some s (plain_array {x = y} h) some e = cc (array_kind (moved f y), null_kind, sym (by.moved_array f y) ∙ e)

  of_world_on : (s : JavaType) → IsErased s → IsOfWorld w s → IsOfWorld v (moved f s)
  of_world_on s (plain_primitive p) h = worlds.primitive_of_world v (moved f s) p (by.moved_primitive f p)
  of_world_on s plain_null h = worlds.null_of_world v (moved f s) (by.moved_null f)
  of_world_on s (plain_class c) h = subst (IsOfWorld v) (sym (by.moved_class f c)) (bare_known v (f c) (known_on c (known_bare w c s [] refl h)))
  of_world_on s (plain_array {x = y} e) h =
      let parts = worlds.array_parts w h.0 s y h.1 refl in
      worlds.array_of_world v (moved f s) (moved f y) (by.moved_array f y) (moved_some y e parts.0) (of_world_on y e (h.0, parts.1))

  of_world_back : (s : JavaType) → IsErased s → IsOfWorld v (moved f s) → IsOfWorld w s
  of_world_back s (plain_primitive p) h = worlds.primitive_of_world w s p refl
  of_world_back s plain_null h = worlds.null_of_world w s refl
  of_world_back s (plain_class c) h = bare_known w c (known_back c (known_bare v (f c) (moved f s) [] (by.moved_class f c) h))
  of_world_back s (plain_array {x = y} e) h =
      let parts = worlds.array_parts v h.0 (moved f s) (moved f y) h.1 (by.moved_array f y) in
      worlds.array_of_world w s y refl (λ none. parts.0 (ap (moved f) none ∙ by.moved_null f)) (of_world_back y e (h.0, parts.1))

  -- ---- what is below in the old world is so in the new one

  both : {s s' t t' : JavaType} → s' ≡ s → t' ≡ t → Subtype v s t → Subtype v s' t'
  both {s = s} {s' = s'} {t = t} {t' = t'} e e' h = subst (λ s. Subtype v s t') (sym e) (subst (Subtype v s) (sym e') h)

  class_on : (c : ℕ) (xs : List JavaType) (t : JavaType) → IsDeclaredSuper w c xs t → Subtype v (moved f (erased (ty.Class c xs))) (moved f (erased t))
  class_on c xs t h =
      let sup = sound.declared.supers c h.0 h.2 h.1 (h.0, h.1, h.3, h.4) in
      let g = sup.1.0 in
      let shape = seen_class h.0.params xs h.2 t g sup.1.1 sup.1.3 h.5 in
      let low : c < length w.types = slice_get_within w.types c h.0 h.1 in
      let high : g < length w.types = slice_get_within w.types g sup.1.2 sup.1.4 in
      let up : Subtype w (ty.Class c xs) (ty.Class g []) = through (subst (Subtype w (ty.Class c xs)) shape.1 (declared h)) (raw g shape.0) in
      let is = (kept c g low high).1 ((bare_known w c low, bare_known w g high), lifts.bare_alike w sups c g xs [] up) in
      both (ap (moved f) (erased_class c xs) ∙ by.moved_class f c) (ap (moved f) (ap erased shape.1 ∙ erased_class g shape.0) ∙ by.moved_class f g) is.1

  object_on : moved f (erased object_type) ≡ object_type
  object_on = ap (moved f) (erased_class 0 []) ∙ by.moved_class f 0 ∙ ap (λ c. ty.Class c []) (sym top)

  on : (s t : JavaType) → Subtype w s t → Subtype v (moved f (erased s)) (moved f (erased t))
  on s t same = same
  on s t (through {m = m} a b) = through (on s m a) (on m t b)
  on s t (declared {c = c} {args = xs} h) = class_on c xs t h
  on s t (object r) = both refl object_on (object (by.refers_on f s r))
  on s t (raw c xs) = both (ap (moved f) (erased_class c xs ∙ sym (erased_class c []))) refl same
  on s t (null r) = both (ap (moved f) erased_null ∙ by.moved_null f) refl (null (by.refers_on f t r))
  on s t (arrays {s = y} {t = z} r r' h) =
      both (ap (moved f) (erased_array y) ∙ by.moved_array f (erased y)) (ap (moved f) (erased_array z) ∙ by.moved_array f (erased z))
      (arrays (by.refers_on f y r) (by.refers_on f z r') (on y z h))
  on s t char_int = both (ap (moved f) (erased_primitive prim.Char) ∙ by.moved_primitive f prim.Char) (ap (moved f) (erased_primitive prim.Int) ∙ by.moved_primitive f prim.Int) char_int
  on s t int_long = both (ap (moved f) (erased_primitive prim.Int) ∙ by.moved_primitive f prim.Int) (ap (moved f) (erased_primitive prim.Long) ∙ by.moved_primitive f prim.Long) int_long

  -- ---- and what is so in the new one was in the old one

  -- no class but Object becomes it
  top_back : (g : ℕ) → g < length w.types → f g ≡ 0 → g ≡ 0
  top_back g lt e =
      let some : 0 < length w.types = omega (arith, lt) in
      let alike : ty.Class (f 0) [] ≡ ty.Class (f g) [] = ap (λ c. ty.Class c []) (sym top ∙ sym e) in
      let over : IsOfWorld v (ty.Class (f g) []) = bare_known v (f g) (known_on g lt) in
      let is = (kept 0 g some lt).0 ((bare_known v (f 0) (known_on 0 some), over), subst (λ s. Subtype v s (ty.Class (f g) [])) (sym alike) same) in
      (same_class g 0 [] [] (orders.object_above w sups object_type (ty.Class g []) is.1 refl)).0

  -- what a primitive type goes to is a primitive type alone
  primitive_back : (p : Primitive) (t : JavaType) → IsErased t → moved f t ≡ ty.Prim p → t ≡ ty.Prim p
  primitive_back p t (plain_primitive q) e = sym (by.moved_primitive f q) ∙ e
  primitive_back p t plain_null e = absurd (cc (primitive_kind p, null_kind, sym (by.moved_null f) ∙ e))
  primitive_back p t (plain_class c) e = absurd (cc (primitive_kind p, class_kind (f c) [], sym (by.moved_class f c) ∙ e))
  primitive_back p t (plain_array {x = y} h) e = absurd (cc (primitive_kind p, array_kind (moved f y), sym (by.moved_array f y) ∙ e))

  refers_back : (t : JavaType) → IsErased t → IsReference (moved f t) → IsReference t
  refers_back t (plain_primitive p) r = absurd (primitive_refers_not (moved f t) p r (by.moved_primitive f p))
  refers_back t plain_null r = absurd (null_refers_not (moved f t) r (by.moved_null f))
  refers_back t (plain_class c) r = of_class c []
  refers_back t (plain_array {x = y} h) r = of_array y

  above_primitive : (p : Primitive) (t : JavaType) → IsErased t → Subtype v (ty.Prim p) (moved f t) → Subtype w (ty.Prim p) t
  above_primitive p t e h =
      let up = orders.primitive_above v sups_new (ty.Prim p) (moved f t) h p refl in
      subst (Subtype w (ty.Prim p)) (sym (primitive_back up.0 t e up.1)) (orders.primitive_below w sups p up.0 up.2)

  above_null : (t : JavaType) → IsErased t → Subtype v ty.Null (moved f t) → Subtype w ty.Null t
  above_null t (plain_primitive p) h = elim (orders.null_above v sups_new ty.Null (moved f t) h refl) [
    | inl e ↦ absurd (cc (primitive_kind p, null_kind, sym (by.moved_primitive f p) ∙ e))
    | inr r ↦ absurd (primitive_refers_not (moved f t) p r (by.moved_primitive f p))
  ]
  above_null t plain_null h = same
  above_null t (plain_class c) h = null (of_class c [])
  above_null t (plain_array {x = y} e) h = null (of_array y)

  above_class : (c : ℕ) (t : JavaType) → IsErased t → IsOfWorld w (ty.Class c []) → IsOfWorld w t → Subtype v (ty.Class (f c) []) (moved f t) → Subtype w (ty.Class c []) t
  above_class c t e over high h = go t e high h (orders.class_above v sups_new known.0 (ty.Class (f c) []) (moved f t) h (f c) [] refl known.1).0
    where
      low : c < length w.types
      low = known_bare w c (ty.Class c []) [] refl over

      known : IsOfWorld v (ty.Class (f c) [])
      known = bare_known v (f c) (known_on c low)

      go : (t : JavaType) → IsErased t → IsOfWorld w t → Subtype v (ty.Class (f c) []) (moved f t) → (g : ℕ) × (ys : List JavaType) × (moved f t ≡ ty.Class g ys) → Subtype w (ty.Class c []) t
      go t (plain_primitive p) high h up = absurd (cc (primitive_kind p, class_kind up.0 up.1, sym (by.moved_primitive f p) ∙ up.2))
      go t plain_null high h up = absurd (cc (null_kind, class_kind up.0 up.1, sym (by.moved_null f) ∙ up.2))
      go t (plain_class g) high h up =
          let lt = known_bare w g t [] refl high in
          let there = subst (Subtype v (ty.Class (f c) [])) (by.moved_class f g) h in
          ((kept c g low lt).0 ((known, bare_known v (f g) (known_on g lt)), there)).1
      go t (plain_array {x = y} e) high h up = absurd (cc (array_kind (moved f y), class_kind up.0 up.1, sym (by.moved_array f y) ∙ up.2))

  abbrev AboveArray : JavaType → JavaType → Type 0
  AboveArray x t = orders.AboveArray v sups_new x t

  -- an array below a class
  under_class : (y : JavaType) (g : ℕ) → g < length w.types → AboveArray (moved f y) (ty.Class (f g) []) → Subtype w (ty.Array y) (ty.Class g [])
  under_class y g lt (inl e) = absurd (cc (class_kind (f g) [], array_kind (moved f y), e))
  under_class y g lt (inr (inl e)) =
      let number : g ≡ 0 = top_back g lt (same_class (f g) 0 [] [] e).0 in
      subst (λ g. Subtype w (ty.Array y) (ty.Class g [])) (sym number) (object (of_array y))
  under_class y g lt (inr (inr k)) = absurd (cc (class_kind (f g) [], array_kind k.0, k.1))

  lift : (y z : JavaType) → IsReference y → Subtype w y z → Subtype w (ty.Array y) (ty.Array z)
  lift y z r h = arrays r (orders.reference_above w sups y z h r) h

  -- an array below an array
  under_array : (y z : JavaType) → IsErased y → IsErased z → (y ≡ ty.Null → ⊥) → (Subtype v (moved f y) (moved f z) → Subtype w y z) → AboveArray (moved f y) (ty.Array (moved f z))
      → Subtype w (ty.Array y) (ty.Array z)
  under_array y z plain high some before (inl e) = flat y plain some before (same_element (moved f z) (moved f y) e)
    where
      flat : (y : JavaType) → IsErased y → (y ≡ ty.Null → ⊥) → (Subtype v (moved f y) (moved f z) → Subtype w y z) → moved f z ≡ moved f y → Subtype w (ty.Array y) (ty.Array z)
      flat y (plain_primitive p) some before is = subst (λ z. Subtype w (ty.Array y) (ty.Array z)) (sym (primitive_back p z high (is ∙ by.moved_primitive f p))) same
      flat y plain_null some before is = absurd (some refl)
      flat y (plain_class c) some before is = lift y z (of_class c []) (before (subst (Subtype v (moved f y)) (sym is) same))
      flat y (plain_array {x = u} e) some before is = lift y z (of_array u) (before (subst (Subtype v (moved f y)) (sym is) same))
  under_array y z plain high some before (inr (inl e)) = absurd (cc (array_kind (moved f z), class_kind 0 [], e))
  under_array y z plain high some before (inr (inr k)) =
      lift y z (refers_back y plain k.2) (before (subst (Subtype v (moved f y)) (sym (same_element (moved f z) k.0 k.1)) k.4))

  above_array : (y t : JavaType) → IsErased y → IsErased t → IsOfWorld w (ty.Array y) → IsOfWorld w t → ((z : JavaType) → IsErased z → t ≡ ty.Array z → Subtype v (moved f y) (moved f z) → Subtype w y z)
      → AboveArray (moved f y) (moved f t) → Subtype w (ty.Array y) t
  above_array y t plain (plain_primitive p) over high before up = absurd (none up)
    where
      none : AboveArray (moved f y) (moved f (ty.Prim p)) → ⊥
      none (inl e) = cc (primitive_kind p, array_kind (moved f y), sym (by.moved_primitive f p) ∙ e)
      none (inr (inl e)) = cc (primitive_kind p, class_kind 0 [], sym (by.moved_primitive f p) ∙ e)
      none (inr (inr k)) = cc (primitive_kind p, array_kind k.0, sym (by.moved_primitive f p) ∙ k.1)
  above_array y t plain plain_null over high before up = absurd (none up)
    where
      none : AboveArray (moved f y) (moved f ty.Null) → ⊥
      none (inl e) = cc (null_kind, array_kind (moved f y), sym (by.moved_null f) ∙ e)
      none (inr (inl e)) = cc (null_kind, class_kind 0 [], sym (by.moved_null f) ∙ e)
      none (inr (inr k)) = cc (null_kind, array_kind k.0, sym (by.moved_null f) ∙ k.1)
  above_array y t plain (plain_class g) over high before up =
      under_class y g (known_bare w g t [] refl high) (subst (AboveArray (moved f y)) (by.moved_class f g) up)
  above_array y t plain (plain_array {x = z} e) over high before up =
      let parts = worlds.array_parts w over.0 (ty.Array y) y over.1 refl in
      under_array y z plain e parts.0 (before z e refl) (subst (AboveArray (moved f y)) (by.moved_array f z) up)

  element_over : (y : JavaType) → IsOfWorld w (ty.Array y) → IsOfWorld w y
  element_over y h = (h.0, (worlds.array_parts w h.0 (ty.Array y) y h.1 refl).1)

  back_to : (s t : JavaType) → IsErased s → IsErased t → IsOfWorld w s → IsOfWorld w t → Subtype v (moved f s) (moved f t) → Subtype w s t
  back_to s t (plain_primitive p) e over high h = above_primitive p t e (subst (λ s. Subtype v s (moved f t)) (by.moved_primitive f p) h)
  back_to s t plain_null e over high h = above_null t e (subst (λ s. Subtype v s (moved f t)) (by.moved_null f) h)
  back_to s t (plain_class c) e over high h = above_class c t e over high (subst (λ s. Subtype v s (moved f t)) (by.moved_class f c) h)
  back_to s t (plain_array {x = y} plain) e over high h =
      above_array y t plain e over high
      (λ z other is below. back_to y z plain other (element_over y over) (element_over z (subst (IsOfWorld w) is high)) below)
      (orders.array_above v sups_new (moved f s) (moved f t) h (moved f y) (by.moved_array f y))

  pub order_stands : (s t : JavaType) → erased s ≡ s → erased t ≡ t → IsBelow v (moved f s) (moved f t) ↔ IsBelow w s t
  order_stands s t plain high = (
    λ h.
        let low = of_world_back s (is_erased s plain) h.0.0 in
        let above = of_world_back t (is_erased t high) h.0.1 in
        ((low, above), back_to s t (is_erased s plain) (is_erased t high) low above h.1),
    λ h.
        let is = subst (λ s. Subtype v (moved f s) (moved f (erased t))) plain (on s t h.1) in
        ((of_world_on s (is_erased s plain) h.0.0, of_world_on t (is_erased t high) h.0.1), subst (λ t. Subtype v (moved f s) (moved f t)) high is),
  )

-- where the order of erased types is kept, so is that of two classes
pub pair_kept : (w v : World) (x : Numbers) → KeepsOrder x w v → (k g : ℕ) → IsPairKept w v (goes_to x) k g
pair_kept w v x h k g =
    let is = h.order (ty.Class k []) (ty.Class g []) (erased_class k []) (erased_class g []) in
    subst (λ t. IsBelow v (ty.Class (goes_to x k) []) t ↔ IsBelow w (ty.Class k []) (ty.Class g [])) (by.moved_class (goes_to x) g)
    (subst (λ s. IsBelow v s (moved (goes_to x) (ty.Class g [])) ↔ IsBelow w (ty.Class k []) (ty.Class g [])) (by.moved_class (goes_to x) k) is)

same_answers : {A : Type 0} {B : Type 0} (b c : Bool) → IsTrue b ↔ A → IsTrue c ↔ B → A ↔ B → b ≡ c
same_answers true true h k is = refl
same_answers false false h k is = refl
same_answers true false h k is = sym (k.1 (is.0 (h.0 refl)))
same_answers false true h k is = h.1 (is.1 (k.0 refl))

-- so for what is told of the worlds
pub order_told : (w v : World) (x : Numbers) → KeepsOrder x w v → KeepsOrderTold x w v
order_told w v x h p c d ways here there told told_new s t plain high =
    let old : IsTrue (c.sub s t) ↔ IsBelow w s t = subst (λ w. IsTrue (c.sub s t) ↔ IsBelow w s t) here (told.sub s t) in
    let moved_there : IsTrue (d.sub (moved p.ways.types s) (moved p.ways.types t)) ↔ IsBelow v (moved p.ways.types s) (moved p.ways.types t) =
    subst (λ w. IsTrue (d.sub (moved p.ways.types s) (moved p.ways.types t)) ↔ IsBelow w (moved p.ways.types s) (moved p.ways.types t)) there (told_new.sub (moved p.ways.types s) (moved p.ways.types t)) in
    let kept : IsBelow v (moved p.ways.types s) (moved p.ways.types t) ↔ IsBelow w s t = subst (λ f. IsBelow v (moved f s) (moved f t) ↔ IsBelow w s t) (sym ways) (h.order s t plain high) in
    same_answers (d.sub (moved p.ways.types s) (moved p.ways.types t)) (c.sub s t) moved_there old kept

-- what a test of all pairs comes to
pub classes_told : (w v : World) (x : Numbers) (r : Bool) (count : ℕ) → IsSound w → IsSound v → length w.types < 2 ^ 32 → length x.to ≡ length w.types → length x.back ≡ length v.types → 0 ≡ goes_to x 0
    → count ≡ length w.types → IsTrue r ↔ ((k g : ℕ) → k < count → g < count → IsPairKept w v (goes_to x) k g) → IsTrue r ↔ KeepsOrder x w v
classes_told w v x r count sound sound_new few to back top all is = (
  λ h. record {
    few = few;
    to = to;
    back = back;
    top = top;
    order = order_stands w v x sound sound_new to back top (λ k g low high. is.0 h k g (omega (arith, low, all)) (omega (arith, high, all)));
  },
  λ h. is.1 (λ k g low high. pair_kept w v x h k g),
)

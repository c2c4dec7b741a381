-- Which classes may be below two parameterizations of one class: those from which the declared supertypes lead to a generic one.
use Rattle.std.proofs.Common.{◌≡◌, ℕ, ◌+◌, ◌<◌, Bool, true, List, [], ◌∷◌, ◌++◌, Some, ◌⊎◌, ◌↔◌, inl, inr, map, refl, sym, ap, ◌∙◌, subst, length, arith}
use Rattle.std.specs.Prelude.{slice_get, nat_lt}
use Rattle.std.specs.Option.{option_map}
use Rattle.std.proofs.lemmas.Bool.{ltb-true, lt-ltb}
use Rattle.std.proofs.lemmas.Option.{slice_get_within, get_or_from_slice_get, slice_get-map}
use Rattle.java_tree.specs.declared.tree.Primitive.TheVariants as prim
use Rattle.type_reach.specs.Reach.{IsEdge, Leads, Reaches, step, further}
use Rattle.class_world.specs.declared.world.World.{World}
use Rattle.class_world.specs.declared.world.TypeInfo.{TypeInfo}
use Rattle.class_world.specs.declared.world.JavaType.{JavaType}
use Rattle.class_world.specs.declared.world.JavaType.TheVariants as ty
use Rattle.class_world.specs.Types.{variables, with_own, IsTypeOver}
use Rattle.class_world.specs.DirectSupers.{IsDirectSuper}
use Rattle.class_world.specs.Subtypes.{Subtype, same, through, declared, object, raw, null, arrays, char_int, int_long}
use Rattle.class_world.specs.Sound.{HaveClassSupers}
use Rattle.class_world.specs.Graphs.{ArePairs, IsSuperGraph}
use Rattle.class_world.specs.Climbs.{FlagBases, HasBase}
use Rattle.class_world.proofs.Forms.{primitive_kind, null_kind, class_kind, array_kind, same_class}
use Rattle.class_world.proofs.Substs.{there_is}
use Rattle.class_world.proofs.Ends.{at_first, at_last}
use Rattle.class_world.proofs.Searches.{length_snoc}
use Rattle.class_world.proofs.Orders.{class_parts, declared_over, own_over, bare_over, object_over, seen_class}
use Rattle.class_world.proofs.Lifts.{base_generic}

lower_or_last : (k i : ℕ) → k < i + 1 → (k < i) ⊎ (k ≡ i)
lower_or_last k i h = grind (arith, h)

-- lists whose first elements belong to each other

abbrev pub ArePairsTo : {A B : Type 0} → (A → B → Type 0) → List A → List B → ℕ → Type 0
ArePairsTo {A = A} {B = B} R xs ys i = (length ys ≡ i) × ((k : ℕ) (x : A) → k < i → slice_get xs k ≡ Some x → (y : B) × (slice_get ys k ≡ Some y) × R x y)

pub pairs_begin : {A B : Type 0} (R : A → B → Type 0) (xs : List A) (ys : List B) → ys ≡ [] → ArePairsTo R xs ys 0
pairs_begin R xs ys none = (ap length none, λ k x lt. absurd (omega (arith, lt)))

pub pairs_next : {A B : Type 0} (R : A → B → Type 0) (xs : List A) (ys new : List B) (i : ℕ) (x : A) (y : B) → ArePairsTo R xs ys i → slice_get xs i ≡ Some x → R x y → new ≡ ys ++ y ∷ [] → ArePairsTo R xs new (i + 1)
pairs_next R xs ys new i x y before at belongs made = (
  ap length made ∙ length_snoc ys y ∙ ap (λ n. n + 1) before.0,
  λ k z lt at'. elim (lower_or_last k i lt) [
    | inl low ↦
        let was = before.1 k z low at' in
        (was.0, ap (λ l. slice_get l k) made ∙ at_first ys y was.0 k was.1, was.2)
    | inr last ↦
        let alike : x ≡ z = cc (at, ap (slice_get xs) (sym last) ∙ at') in
        (y, ap (λ l. slice_get l k) made ∙ ap (slice_get (ys ++ y ∷ [])) (last ∙ sym before.0) ∙ at_last ys y, subst (λ x. R x y) alike belongs)
  ],
)

pub pairs_end : {A B : Type 0} (R : A → B → Type 0) (xs : List A) (ys : List B) (i : ℕ) → ArePairsTo R xs ys i → length xs ≡ i → ArePairs R xs ys
pairs_end R xs ys i all e = (all.0 ∙ sym e, λ k x at. let lt = slice_get_within xs k x at in all.1 k x (omega (arith, lt, e)) at)

module _ (w : World) (sups : HaveClassSupers w) (graph : List (List ℕ)) (is_graph : IsSuperGraph w graph) (marks : List Bool) (marked : marks ≡ map (λ (i : TypeInfo). nat_lt 0 i.params) w.types) where
  generic : (c : ℕ) (info : TypeInfo) → slice_get w.types c ≡ Some info → (slice_get marks c ≡ Some true) ↔ (0 < info.params)
  generic c info at =
      let read : slice_get marks c ≡ Some (nat_lt 0 info.params) = ap (λ ms. slice_get ms c) marked ∙ slice_get-map (λ (i : TypeInfo). nat_lt 0 i.params) w.types c
      ∙ ap (option_map (λ (i : TypeInfo). nat_lt 0 i.params)) at in (
        λ h. let yes : nat_lt 0 info.params ≡ true = cc (read, h) in ltb-true 0 info.params yes,
        λ lt. read ∙ ap (λ b. Some b) (lt-ltb 0 info.params lt),
      )

  edge : (c h : ℕ) (ys : List JavaType) → IsDirectSuper w c (ty.Class h ys) → IsEdge graph c h
  edge c h ys super =
      let row = is_graph.1 c super.0 super.1 in
      let at = row.2.1 super.2 (ty.Class h ys) super.3 in
      let sup = sups.supers c super.0 (ty.Class h ys) super.1 super in
      let known = class_parts w super.0.params (ty.Class h ys) h ys sup.0 refl in
      let here : slice_get row.0 super.2 ≡ Some h = at.1 ∙ ap (λ n. Some n) (at.2 h ys refl) in
      let lt : h < length w.types = slice_get_within w.types h known.0 known.1 in
      (row.0, row.1, (super.2, slice_get_within row.0 super.2 h here, get_or_from_slice_get row.0 super.2 h h here), omega (arith, lt, is_graph.0))

  reach_on : (c h : ℕ) → IsEdge graph c h → Reaches graph marks h → Reaches graph marks c
  reach_on c h e (inl mark) = inr (h, step e, mark)
  reach_on c h e (inr way) = inr (way.0, further e way.1, way.2)

  -- Object reaches none
  object_reaches : (info : TypeInfo) → slice_get w.types 0 ≡ Some info → Reaches graph marks 0 → ⊥
  object_reaches info at (inl mark) = let none = (sups.top info at).0 in let some = (generic 0 info at).0 mark in omega (arith, none, some)
  object_reaches info at (inr way) = first way.1
    where
      no_edge : (b : ℕ) → IsEdge graph 0 b → ⊥
      no_edge b e =
          let row = is_graph.1 0 info at in
          let alike : row.0 ≡ e.0 = cc (row.1, e.1) in
          let none : length row.0 ≡ 0 = row.2.0 ∙ ap length (sups.top info at).1 in
          omega (arith, none, ap length alike, e.2.1)

      first : {b : ℕ} → Leads graph 0 b → ⊥
      first (step e) = no_edge _ e
      first (further e on) = no_edge _ e

  reach_back : (n : ℕ) (s t : JavaType) → Subtype w s t → (c : ℕ) (xs : List JavaType) → s ≡ ty.Class c xs → IsTypeOver w n s
      → (h : ℕ) × (ys : List JavaType) × (t ≡ ty.Class h ys) × IsTypeOver w n t × (Reaches graph marks h → Reaches graph marks c)
  reach_back n s t same c xs e over = (c, xs, e, over, λ r. r)
  reach_back n s t (through {m = m} a b) c xs e over =
      let low = reach_back n s m a c xs e over in
      let high = reach_back n m t b low.0 low.1 low.2 low.3 in
      (high.0, high.1, high.2, high.3, λ r. low.4 (high.4 r))
  reach_back n s t (declared {c = d} {args = zs} h) c xs e over =
      let number = (same_class d c zs xs e).0 in
      let direct : IsDirectSuper w d h.2 = (h.0, h.1, h.3, h.4) in
      let sup = sups.supers d h.0 h.2 h.1 direct in
      let shape = seen_class h.0.params zs h.2 t sup.1.0 sup.1.1 sup.1.2 h.5 in
      let way = edge d sup.1.0 sup.1.1 (subst (IsDirectSuper w d) sup.1.2 direct) in
      (sup.1.0, shape.0, shape.1, (declared_over w sups n d zs t over h).0, λ r. subst (Reaches graph marks) number (reach_on d sup.1.0 way r))
  reach_back n s t (object r) c xs e over =
      let parts = class_parts w n s c xs over e in
      let lt = slice_get_within w.types c parts.0 parts.1 in
      let top = there_is w.types 0 (omega (arith, lt)) in
      (0, [], refl, object_over w n c parts.0 parts.1, λ r. absurd (object_reaches top.0 top.1 r))
  reach_back n s t (raw d zs) c xs e over =
      let parts = class_parts w n s d zs over refl in
      let number = (same_class d c zs xs e).0 in
      (d, [], refl, bare_over w n d parts.0 parts.1, subst (Reaches graph marks) number)
  reach_back n s t (null r) c xs e over = absurd (cc (null_kind, class_kind c xs, e))
  reach_back n s t (arrays {s = x} r r' up) c xs e over = absurd (cc (array_kind x, class_kind c xs, e))
  reach_back n s t char_int c xs e over = absurd (cc (primitive_kind prim.Char, class_kind c xs, e))
  reach_back n s t int_long c xs e over = absurd (cc (primitive_kind prim.Int, class_kind c xs, e))

  reaches_generic : (c : ℕ) (info : TypeInfo) (g : ℕ) → slice_get w.types c ≡ Some info → HasBase w (with_own c info.params) g → Reaches graph marks c
  reaches_generic c info g at h =
      let back = reach_back info.params (with_own c info.params) h.0 h.2 c (variables 0 info.params) refl (own_over w c info at) in
      let is = base_generic w sups info.params c g (variables 0 info.params) (own_over w c info at) h in
      let number : g ≡ back.0 = (same_class g back.0 h.1.0 back.1 (sym h.1.1 ∙ back.2)).0 in
      back.4 (subst (Reaches graph marks) number (inl ((generic g is.0 is.1).1 is.2)))

  -- no parameterized type is above a class from which none is reached
  pub flags_told : (answers : List Bool) → length answers ≡ length graph → ((a : ℕ) → a < length graph → (slice_get answers a ≡ Some true) ↔ Reaches graph marks a) → FlagBases w answers
  flags_told answers len told = (
    len ∙ is_graph.0,
    λ c info g never at h.
        let lt = slice_get_within w.types c info at in
        let yes = (told c (omega (arith, lt, is_graph.0))).1 (reaches_generic c info g at h) in
        absurd (cc (yes, never)),
  )

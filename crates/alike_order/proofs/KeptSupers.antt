-- Where the classes keep their declared supertypes, they keep their order.
use Rattle.std.proofs.Common.{◌≡◌, ◌↔◌, ◌⊎◌, inl, inr, ℕ, zero, suc, ◌+◌, ◌<◌, List, [], ◌∷◌, Some, refl, sym, ap, ◌∙◌, subst, length, get_or, drop, drop-cons, arith}
use Rattle.std.specs.Prelude.{slice_get}
use Rattle.std.proofs.lemmas.Option.{slice_get_within}
use Rattle.java_tree.specs.declared.tree.Primitive.TheVariants as prim
use Rattle.class_world.specs.declared.world.World.{World}
use Rattle.class_world.specs.declared.world.TypeInfo.{TypeInfo}
use Rattle.class_world.specs.declared.world.JavaType.{JavaType}
use Rattle.class_world.specs.declared.world.JavaType.TheVariants as ty
use Rattle.class_world.specs.Types.{of_class}
use Rattle.class_world.specs.Subtypes.{Subtype, same, through, declared, object, raw, null, arrays, char_int, int_long}
use Rattle.class_world.specs.Sound.{HaveClassSupers, IsSound}
use Rattle.class_world.proofs.Forms.{primitive_kind, null_kind, class_kind, array_kind, same_class}
use Rattle.class_world.proofs.Substs.{there_is}
use Rattle.class_world.proofs.Orders.{class_supers, seen_class}
use Rattle.class_world.proofs.Lifts.{bare_declared}
use Rattle.program_maps.specs.declared.numbers.Numbers.{Numbers}
use Rattle.program_maps.specs.Ways.{goes_to, or_behind}
use Rattle.program_maps.proofs.Counting.{one_to_one}
use Rattle.alike_order.specs.Order.{IsPairKept}
use Rattle.alike_order.specs.Supers.{IsOfClass, IsAdded, IsOfAdded, IsKeptAs, AreKept, KeepAllSupers}
use Rattle.alike_order.proofs.Orders.{bare_known}

-- ---- types along a list

pub at_front : (ts : List JavaType) (i : ℕ) (t : JavaType) → i < length ts → t ≡ get_or ts i t → drop i ts ≡ t ∷ drop (i + 1) ts
at_front ts i t lt at =
    let e : suc i ≡ i + 1 = omega arith in
    drop-cons ts i t lt ∙ ap (λ u. u ∷ drop (suc i) ts) (sym at) ∙ ap (λ n. t ∷ drop n ts) e

-- behind an added one
pub past_added : (v : World) (x : Numbers) (ss us ts : List JavaType) (t : JavaType) (K : Type 0) → us ≡ t ∷ ts → IsOfAdded v x t → AreKept v x ss us ↔ K → AreKept v x ss ts ↔ K
past_added v x ss us ts t K e added is = (
  λ h. is.0 (subst (AreKept v x ss) (sym e) (inl (added, h))),
  λ k. elim (subst (AreKept v x ss) e (is.1 k)) [ inl h ↦ h.1 | inr h ↦ absurd (h.0 added) ],
)

-- behind one that is kept
pub past_kept : (v : World) (x : Numbers) (ss rest us ts : List JavaType) (s t : JavaType) (K : Type 0) → us ≡ t ∷ ts → ss ≡ s ∷ rest → (IsOfAdded v x t → ⊥) → IsKeptAs x s t
    → AreKept v x ss us ↔ K → AreKept v x rest ts ↔ K
past_kept v x ss rest us ts s t K e front never kept is = (
  λ h. is.0 (subst (AreKept v x ss) (sym e) (inr (never, (s, rest, front, kept, h)))),
  λ k.
      elim (subst (AreKept v x ss) e (is.1 k)) [
        | inl h ↦ absurd (never h.0)
        | inr h ↦ let tail : h.1.1 ≡ rest = cc (h.1.2, front) in subst (λ rest. AreKept v x rest ts) tail h.1.4
      ],
)

-- what is kept, element by element

kept_on : (v : World) (x : Numbers) (ss ts : List JavaType) → AreKept v x ss ts → (k : ℕ) (s : JavaType) → slice_get ss k ≡ Some s
    → (i : ℕ) × (t : JavaType) × (slice_get ts i ≡ Some t) × IsKeptAs x s t
kept_on v x ss [] h k s at = absurd (cc (h, at))
kept_on v x ss (t ∷ ts) (inl added) k s at = let on = kept_on v x ss ts added.1 k s at in (suc on.0, on.1, on.2, on.3)
kept_on v x [] (t ∷ ts) (inr next) k s at = absurd (cc at)
kept_on v x (u ∷ us) (t ∷ ts) (inr (never, (first, rest, e, kept, all))) zero s at =
    let is : first ≡ s = cc (e, at) in
    (zero, t, refl, subst (λ s. IsKeptAs x s t) is kept)
kept_on v x (u ∷ us) (t ∷ ts) (inr (never, (first, rest, e, kept, all))) (suc k) s at =
    let tail : us ≡ rest = cc e in
    let on = kept_on v x rest ts all k s (subst (λ us. slice_get us k ≡ Some s) tail at) in
    (suc on.0, on.1, on.2, on.3)

kept_back : (v : World) (x : Numbers) (ss ts : List JavaType) → AreKept v x ss ts → (i : ℕ) (t : JavaType) → slice_get ts i ≡ Some t
    → IsOfAdded v x t ⊎ ((k : ℕ) × (s : JavaType) × (slice_get ss k ≡ Some s) × IsKeptAs x s t)
kept_back v x ss [] h i t at = absurd (cc at)
kept_back v x ss (u ∷ ts) (inl added) zero t at = let is : u ≡ t = cc at in inl (subst (IsOfAdded v x) is added.0)
kept_back v x ss (u ∷ ts) (inl added) (suc i) t at = kept_back v x ss ts added.1 i t at
kept_back v x ss (u ∷ ts) (inr (never, (first, rest, e, kept, all))) zero t at =
    let is : u ≡ t = cc at in
    inr (zero, first, ap (λ ss. slice_get ss zero) e, subst (IsKeptAs x first) is kept)
kept_back v x ss (u ∷ ts) (inr (never, (first, rest, e, kept, all))) (suc i) t at =
    elim (kept_back v x rest ts all i t at) [
      | inl added ↦ inl added
      | inr from ↦ inr (suc from.0, from.1, ap (λ ss. slice_get ss (suc from.0)) e ∙ from.2, from.3)
    ]

-- the class of a type is the only one
only_class : (s t : JavaType) → s ≡ t → (c d : ℕ) → IsOfClass s c → IsOfClass t d → c ≡ d
only_class s t e c d h k = (same_class c d h.0 k.0 (sym h.1 ∙ e ∙ k.1)).0

module _ (w v : World) (x : Numbers) (sound : IsSound w) (sound_new : IsSound v) (to : length x.to ≡ length w.types) (back : length x.back ≡ length v.types) (top : 0 ≡ goes_to x 0)
    (kept : KeepAllSupers w v x (length w.types)) where
  sups : HaveClassSupers w
  sups = class_supers w sound.declared

  sups_new : HaveClassSupers v
  sups_new = class_supers v sound_new.declared

  abbrev f : ℕ → ℕ
  f = goes_to x

  -- a declared supertype is of a class of the world
  super_known : (c : ℕ) (info : TypeInfo) (k : ℕ) (t : JavaType) → slice_get w.types c ≡ Some info → slice_get info.supers k ≡ Some t → (g : ℕ) → IsOfClass t g → g < length w.types
  super_known c info k t at there g is =
      let sup = sound.declared.supers c info t at (info, at, k, there) in
      let e : sup.1.0 ≡ g = only_class t t refl sup.1.0 g (sup.1.1, sup.1.3) is in
      subst (λ g. g < length w.types) e (slice_get_within w.types sup.1.0 sup.1.2 sup.1.4)

  -- ---- what is above in the old world is so in the new one

  super_to : (c g : ℕ) (after : TypeInfo) (i : ℕ) (s t : JavaType) → slice_get v.types (f c) ≡ Some after → slice_get after.supers i ≡ Some t → IsOfClass s g → IsKeptAs x s t
      → Subtype v (ty.Class (f c) []) (ty.Class (f g) [])
  super_to c g after i s t at there is from =
      let class : from.0 ≡ g = only_class s s refl from.0 g from.1 is in
      bare_declared v sups_new (f c) after t i at there (f g) from.2.0 (from.2.1 ∙ ap (λ g. ty.Class (f g) from.2.0) class)

  super_on : (c : ℕ) (info : TypeInfo) (k : ℕ) (t : JavaType) → slice_get w.types c ≡ Some info → slice_get info.supers k ≡ Some t → (g : ℕ) → IsOfClass t g
      → Subtype v (ty.Class (f c) []) (ty.Class (f g) [])
  super_on c info k t at there g is =
      let h = kept.1 c (slice_get_within w.types c info at) in
      let alike : info ≡ h.0 = cc (h.2, at) in
      let on = kept_on v x h.0.supers h.1.supers h.4 k t (subst (λ (i : TypeInfo). slice_get i.supers k ≡ Some t) alike there) in
      super_to c g h.1 on.0 t on.1 h.3 on.2 is on.3

  -- the class of a type above in the old world, above in the new one
  abbrev On : ℕ → JavaType → Type 0
  On c t = (g : ℕ) × IsOfClass t g × (g < length w.types) × Subtype v (ty.Class (f c) []) (ty.Class (f g) [])

  on_above : (s t : JavaType) → Subtype w s t → (c : ℕ) (xs : List JavaType) → s ≡ ty.Class c xs → c < length w.types → On c t
  on_above s t same c xs e lt = (c, (xs, e), lt, same)
  on_above s t (through {m = m} a b) c xs e lt =
      let low = on_above s m a c xs e lt in
      let high = on_above m t b low.0 low.1.0 low.1.1 low.2 in
      (high.0, high.1, high.2, through low.3 high.3)
  on_above s t (declared {c = d} {args = zs} h) c xs e lt =
      let class : d ≡ c = (same_class d c zs xs e).0 in
      let sup = sound.declared.supers d h.0 h.2 h.1 (h.0, h.1, h.3, h.4) in
      let shape = seen_class h.0.params zs h.2 t sup.1.0 sup.1.1 sup.1.3 h.5 in
      let up = super_on d h.0 h.3 h.2 h.1 h.4 sup.1.0 (sup.1.1, sup.1.3) in
      (sup.1.0, shape, slice_get_within w.types sup.1.0 sup.1.2 sup.1.4, subst (λ c. Subtype v (ty.Class (f c) []) (ty.Class (f sup.1.0) [])) class up)
  on_above s t (object r) c xs e lt =
      (0, ([], refl), omega (arith, lt), subst (λ g. Subtype v (ty.Class (f c) []) (ty.Class g [])) top (object (of_class _ _)))
  on_above s t (raw d zs) c xs e lt = (c, ([], ap (λ c. ty.Class c []) (same_class d c zs xs e).0), lt, same)
  on_above s t (null r) c xs e lt = absurd (cc (null_kind, class_kind c xs, e))
  on_above s t (arrays {s = y} r r' h) c xs e lt = absurd (cc (array_kind y, class_kind c xs, e))
  on_above s t char_int c xs e lt = absurd (cc (primitive_kind prim.Char, class_kind c xs, e))
  on_above s t int_long c xs e lt = absurd (cc (primitive_kind prim.Int, class_kind c xs, e))

  -- ---- and what is above in the new world was so in the old one

  -- a class of the new world comes from one above k, or is added
  abbrev From : (k c : ℕ) → Type 0
  From k c = ((g : ℕ) × (g < length w.types) × (c ≡ f g) × Subtype w (ty.Class k []) (ty.Class g [])) ⊎ IsAdded v x c

  object_from : (k : ℕ) → k < length w.types → From k 0
  object_from k lt = inl (0, omega (arith, lt), top, object (of_class _ _))

  -- a supertype of what g became is one of g, or added
  super_of : (k g : ℕ) (before : TypeInfo) (i : ℕ) (s t : JavaType) → slice_get w.types g ≡ Some before → slice_get before.supers i ≡ Some s → IsKeptAs x s t → (d : ℕ) → IsOfClass t d
      → Subtype w (ty.Class k []) (ty.Class g []) → From k d
  super_of k g before i s t at there from d is up =
      let class : d ≡ f from.0 = only_class t t refl d (f from.0) is from.2 in
      inl (from.0, super_known g before i s at there from.0 from.1, class, through up (bare_declared w sups g before s i at there from.0 from.1.0 from.1.1))

  super_back : (k : ℕ) → k < length w.types → (c : ℕ) (info : TypeInfo) (i : ℕ) (t : JavaType) → slice_get v.types c ≡ Some info → slice_get info.supers i ≡ Some t
      → (d : ℕ) → IsOfClass t d → From k c → From k d
  super_back k lt c info i t at there d is (inl (g, low, image, up)) =
      let h = kept.1 g low in
      let alike : info ≡ h.1 = cc (h.3, at, image) in
      elim (kept_back v x h.0.supers h.1.supers h.4 i t (subst (λ (after : TypeInfo). slice_get after.supers i ≡ Some t) alike there)) [
        | inl added ↦ inr (subst (IsAdded v x) (only_class t t refl added.0 d added.1 is) added.2)
        | inr from ↦ super_of k g h.0 from.0 from.1 t h.2 from.2 from.3 d is up
      ]
  super_back k lt c info i t at there d is (inr added) =
      let alike : info ≡ added.1.0 = cc (added.1.1, at) in
      let over = added.1.2 i t (subst (λ (after : TypeInfo). slice_get after.supers i ≡ Some t) alike there) in
      subst (From k) (only_class t t refl 0 d over is) (object_from k lt)

  abbrev Back : ℕ → JavaType → Type 0
  Back k t = (d : ℕ) × IsOfClass t d × From k d

  back_above : (k : ℕ) → k < length w.types → (s t : JavaType) → Subtype v s t → (c : ℕ) (xs : List JavaType) → s ≡ ty.Class c xs → From k c → Back k t
  back_above k lt s t same c xs e from = (c, (xs, e), from)
  back_above k lt s t (through {m = m} a b) c xs e from =
      let low = back_above k lt s m a c xs e from in
      back_above k lt m t b low.0 low.1.0 low.1.1 low.2
  back_above k lt s t (declared {c = d} {args = zs} h) c xs e from =
      let class : d ≡ c = (same_class d c zs xs e).0 in
      let sup = sound_new.declared.supers d h.0 h.2 h.1 (h.0, h.1, h.3, h.4) in
      let shape = seen_class h.0.params zs h.2 t sup.1.0 sup.1.1 sup.1.3 h.5 in
      (sup.1.0, shape, super_back k lt d h.0 h.3 h.2 h.1 h.4 sup.1.0 (sup.1.1, sup.1.3) (subst (From k) (sym class) from))
  back_above k lt s t (object r) c xs e from = (0, ([], refl), object_from k lt)
  back_above k lt s t (raw d zs) c xs e from = (c, ([], ap (λ c. ty.Class c []) (same_class d c zs xs e).0), from)
  back_above k lt s t (null r) c xs e from = absurd (cc (null_kind, class_kind c xs, e))
  back_above k lt s t (arrays {s = y} r r' h) c xs e from = absurd (cc (array_kind y, class_kind c xs, e))
  back_above k lt s t char_int c xs e from = absurd (cc (primitive_kind prim.Char, class_kind c xs, e))
  back_above k lt s t int_long c xs e from = absurd (cc (primitive_kind prim.Int, class_kind c xs, e))

  -- ---- so two classes stand to each other as before

  led_back : (k : ℕ) → k < length w.types → slice_get x.back (f k) ≡ Some (Some k)
  led_back k lt =
      let at = there_is x.to k (omega (arith, lt, to)) in
      let goes : f k ≡ at.0 = ap (or_behind (length x.back + k)) at.1 in
      subst (λ n. slice_get x.back n ≡ Some (Some k)) (sym goes) (kept.0 k at.0 at.1)

  known_on : (k : ℕ) → k < length w.types → f k < length v.types
  known_on k lt = let in_back = slice_get_within x.back (f k) (Some k) (led_back k lt) in omega (arith, in_back, back)

  came_from : (k g : ℕ) → g < length w.types → From k (f g) → Subtype w (ty.Class k []) (ty.Class g [])
  came_from k g lt (inl (d, low, image, up)) =
      let alike : d ≡ g = one_to_one x kept.0 d g (sym image) in
      subst (λ g. Subtype w (ty.Class k []) (ty.Class g [])) alike up
  came_from k g lt (inr added) = absurd (cc (led_back g lt, added.0))

  pub pairs_kept : (k g : ℕ) → k < length w.types → g < length w.types → IsPairKept w v f k g
  pairs_kept k g low high = (
    λ h.
        let up = back_above k low _ _ h.1 (f k) [] refl (inl (k, low, refl, same)) in
        let class : up.0 ≡ f g = only_class (ty.Class (f g) []) (ty.Class (f g) []) refl up.0 (f g) up.1 ([], refl) in
        ((bare_known w k low, bare_known w g high), came_from k g high (subst (From k) class up.2)),
    λ h.
        let up = on_above _ _ h.1 k [] refl low in
        let class : up.0 ≡ g = only_class (ty.Class g []) (ty.Class g []) refl up.0 g up.1 ([], refl) in
        ((bare_known v (f k) (known_on k low), bare_known v (f g) (known_on g high)), subst (λ g. Subtype v (ty.Class (f k) []) (ty.Class (f g) [])) class up.3),
  )

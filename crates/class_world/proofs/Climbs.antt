-- The search for two parameterizations of one class above a class, step by step.
use Rattle.std.proofs.Common.{◌≡◌, ℕ, ◌+◌, ◌*◌, ◌<◌, ◌≤◌, zero, suc, true, Result, Ok, Err, List, [], ◌∷◌, Some, ◌⊎◌, ◌↔◌, inl, inr, map, refl, sym, ap, ◌∙◌, subst, length, arith}
use Rattle.std.specs.Prelude.{slice_get, slice_index_or as get_or, ◌≢◌, IfOk}
use Rattle.std.specs.List.{AllPairs, list_any}
use Rattle.std.proofs.lemmas.Bool.{eqb-true}
use Rattle.std.proofs.lemmas.Bool.Decides.{Decides-eqb}
use Rattle.std.proofs.lemmas.List.Folds.{Any-from_list_any}
use Rattle.std.proofs.lemmas.Map.Made.{IsDistinct-from_AllPairs}
use Rattle.std.proofs.lemmas.Map.Steps.{length-le_from_distinct_below}
use Rattle.std.proofs.lemmas.Option.{slice_get-get_or, slice_get_read, slice_get_within}
use Rattle.std.proofs.Math.Dec.{eqb}
use Rattle.java_tree.specs.declared.fault.NoMemory.{NoMemory}
use Rattle.java_tree.specs.declared.tree.Primitive.TheVariants as prim
use Rattle.class_world.specs.declared.world.World.{World}
use Rattle.class_world.specs.declared.world.TypeInfo.{TypeInfo}
use Rattle.class_world.specs.declared.world.JavaType.{JavaType, out-JavaType}
use Rattle.class_world.specs.declared.world.JavaType.TheVariants as ty
use Rattle.class_world.specs.declared.world.JavaType.TheOpen as f
use Rattle.class_world.specs.Types.{object_type, substitute, erased, variables, with_own, IsTypeOver}
use Rattle.class_world.specs.DirectSupers.{IsDirectSuper}
use Rattle.class_world.specs.Subtypes.{Subtype, same, through, declared, object, raw, null, arrays, char_int, int_long, IsDeclaredSuper, IsBelowTwo, Parameterizes}
use Rattle.class_world.specs.Sound.{HaveClassSupers, IsClassOver, IsSingle}
use Rattle.class_world.specs.Merged.{ClashOne, HasPlaces, IsCovered, IsListed, Takes}
use Rattle.class_world.specs.Climbs.{Climbs, Collide, IsClassType, IsClimb, IsClimbing, IsDeclaredAbove, IsRaw, IsSuperBy}
use Rattle.class_world.proofs.Forms.{primitive_kind, null_kind, class_kind, array_kind, same_class}
use Rattle.class_world.proofs.Substs.{put_class, erased_class, length_map, mapped_at, there_is}
use Rattle.class_world.proofs.Orders.{class_parts, declared_over, own_over}
use Rattle.class_world.proofs.Places.{placed_single, taken_kept, taken_only, taken_covered}

lower_or_last : (k i : ℕ) → k < i + 1 → (k < i) ⊎ (k ≡ i)
lower_or_last k i h = grind (arith, h)

covered_longer : (old new : List JavaType) → ((k : ℕ) (u : JavaType) → slice_get old k ≡ Some u → slice_get new k ≡ Some u) → (t : JavaType) → IsCovered old t → IsCovered new t
covered_longer old new kept t h = (h.0, h.1, h.2, h.3, (h.4.0, kept h.4.0 _ h.4.1), h.5)

-- where a type is covered, that of its class without arguments is
bare_covered : (ts : List JavaType) (u t : JavaType) (g : ℕ) (xs : List JavaType) → u ≡ ty.Class g xs → t ≡ ty.Class g [] → IsCovered ts u → IsCovered ts t
bare_covered ts u t g xs e is h =
    let number : g ≡ h.0 = (same_class g h.0 xs h.1 (sym e ∙ h.3)).0 in
    (h.0, [], h.2, is ∙ ap (λ g. ty.Class g []) number, h.4, inl refl)

-- a list has at most two types of each class

slot_of : f.JavaType-F JavaType → ℕ
slot_of (f.Class c []) = 2 * c
slot_of (f.Class c (x ∷ xs)) = 2 * c + 1
slot_of _ = 0

slot : JavaType → ℕ
slot t = slot_of (out-JavaType t)

slot_bare : (c : ℕ) → slot (ty.Class c []) ≡ 2 * c
unfolding slot slot_of
slot_bare c = ap slot_of (ty.outs-Class c [])

slot_full : (c : ℕ) (xs : List JavaType) → (xs ≡ [] → ⊥) → slot (ty.Class c xs) ≡ 2 * c + 1
unfolding slot slot_of
slot_full c [] some = absurd (some refl)
slot_full c (x ∷ xs) some = ap slot_of (ty.outs-Class c (x ∷ xs))

slot_is : (c : ℕ) (xs : List JavaType) → ((xs ≡ []) × (slot (ty.Class c xs) ≡ 2 * c)) ⊎ ((xs ≡ [] → ⊥) × (slot (ty.Class c xs) ≡ 2 * c + 1))
slot_is c [] = inl (refl, slot_bare c)
slot_is c (x ∷ xs) = let some : x ∷ xs ≡ [] → ⊥ = λ e. cc e in inr (some, slot_full c (x ∷ xs) some)

slot_below : (n q : ℕ) (t : JavaType) (g : ℕ) (xs : List JavaType) → t ≡ ty.Class g xs → g < n → q ≡ slot t → q < 2 * n
slot_below n q t g xs shape lt is =
    let number : q ≡ slot (ty.Class g xs) = is ∙ ap slot shape in
    elim (slot_is g xs) [ inl bare ↦ omega (arith, number, bare.1, lt) | inr full ↦ omega (arith, number, full.1, lt) ]

module _ (w : World) (found : List JavaType) (places : List ℕ) (has : HasPlaces found places)
    (classes : (k : ℕ) (t : JavaType) → slice_get found k ≡ Some t → (g : ℕ) × (xs : List JavaType) × (t ≡ ty.Class g xs) × (g < length w.types)) where
  apart : (j k : ℕ) (t u : JavaType) → j < k → slice_get found j ≡ Some t → slice_get found k ≡ Some u → slot t ≡ slot u → ⊥
  apart j k t u lt at_t at_u e =
      let a = classes j t at_t in
      let b = classes k u at_u in
      let alike : slot (ty.Class a.0 a.1) ≡ slot (ty.Class b.0 b.1) = ap slot (sym a.2) ∙ e ∙ ap slot b.2 in
      elim (slot_is a.0 a.1) [
        | inl bare_a ↦ elim (slot_is b.0 b.1) [
          | inl bare_b ↦ let number : a.0 ≡ b.0 = omega (arith, alike, bare_a.1, bare_b.1) in (twice a.0 b.0 a.1 b.1 number (at_t ∙ ap (λ t. Some t) a.2) (at_u ∙ ap (λ t. Some t) b.2)).1 bare_b.0
          | inr full_b ↦ absurd (omega (arith, alike, bare_a.1, full_b.1))
        ]
        | inr full_a ↦ elim (slot_is b.0 b.1) [
          | inl bare_b ↦ absurd (omega (arith, alike, full_a.1, bare_b.1))
          | inr full_b ↦ let number : a.0 ≡ b.0 = omega (arith, alike, full_a.1, full_b.1) in full_a.0 (twice a.0 b.0 a.1 b.1 number (at_t ∙ ap (λ t. Some t) a.2) (at_u ∙ ap (λ t. Some t) b.2)).0
        ]
      ]
    where
      twice : (g h : ℕ) (xs ys : List JavaType) → g ≡ h → slice_get found j ≡ Some (ty.Class g xs) → slice_get found k ≡ Some (ty.Class h ys) → (xs ≡ []) × (ys ≡ [] → ⊥)
      twice g h xs ys number at_t at_u = has.twice j k g xs ys lt at_t (at_u ∙ ap (λ g. Some (ty.Class g ys)) (sym number))

  slots_apart : AllPairs (λ x y. x ≢ y) (map slot found)
  slots_apart i j d lt within e =
      let first = mapped_at slot found i (get_or (map slot found) i d) (slice_get-get_or (map slot found) i d (omega (arith, lt, within))) in
      let second = mapped_at slot found j (get_or (map slot found) j d) (slice_get-get_or (map slot found) j d within) in
      apart i j first.0 second.0 lt first.1 second.1 (sym first.2 ∙ e ∙ second.2)

  slots_below : (q : ℕ) → list_any (eqb q) (map slot found) ≡ true → q < 2 * length w.types
  slots_below q h =
      let any = Any-from_list_any (eqb q) (map slot found) h in
      let at = mapped_at slot found any.0 (get_or (map slot found) any.0 any.1) (slice_get-get_or (map slot found) any.0 any.1 any.2) in
      let is = classes any.0 at.0 at.1 in
      slot_below (length w.types) q at.0 is.0 is.1 is.2 is.3 (eqb-true q any.1 any.4 ∙ sym any.3 ∙ at.2)

  pub at_most_two : length found ≤ 2 * length w.types
  at_most_two =
      let len = length_map slot found in
      let short = length-le_from_distinct_below (map slot found) (2 * length w.types) (IsDistinct-from_AllPairs Decides-eqb (map slot found) slots_apart) slots_below in
      omega (arith, len, short)

-- what a declared supertype is for a type

pub one_super_by : (w : World) (t d u v : JavaType) → IsSuperBy w t d u → IsSuperBy w t d v → u ≡ v
one_super_by w t d u v a b =
    let is = same_class a.0 b.0 a.1 b.1 (sym a.2 ∙ b.2) in
    let info : a.3 ≡ b.3 = cc (a.4, ap (slice_get w.types) is.0 ∙ b.4) in
    let count : a.3.params ≡ b.3.params = ap (λ (i : TypeInfo). i.params) info in
    elim a.5 [
      | inl plain_a ↦ elim b.5 [
        | inl plain_b ↦ plain_a.1 ∙ ap (λ xs. substitute xs d) is.1 ∙ sym plain_b.1
        | inr bare_b ↦ let none : length a.1 ≡ 0 = ap length (is.1 ∙ bare_b.0) in absurd (omega (arith, none, plain_a.0, count, bare_b.1))
      ]
      | inr bare_a ↦ elim b.5 [
        | inl plain_b ↦ let none : length b.1 ≡ 0 = ap length (sym is.1 ∙ bare_a.0) in absurd (omega (arith, none, plain_b.0, count, bare_a.1))
        | inr bare_b ↦ bare_a.2 ∙ sym bare_b.2
      ]
    ]

pub above_by : (w : World) (c : ℕ) (xs : List JavaType) (t d u : JavaType) → t ≡ ty.Class c xs → IsDirectSuper w c d → IsSuperBy w t d u → IsDeclaredAbove w t u
above_by w c xs t d u e h k =
    let is = same_class c k.0 xs k.1 (sym e ∙ k.2) in
    let info : h.0 ≡ k.3 = cc (h.1, ap (slice_get w.types) is.0 ∙ k.4) in
    (k.0, k.1, k.2, (k.3, k.4, d, h.2, ap (λ (i : TypeInfo). slice_get i.supers h.2) (sym info) ∙ h.3, k.5))

-- a class type that is not raw sees its declared supertypes with the arguments put
pub plain_super : (w : World) (t d : JavaType) (c : ℕ) (args args' : List JavaType) (r : Result JavaType NoMemory) → IsClassType w t → ((g : ℕ) (xs : List JavaType) → t ≡ ty.Class g xs → c ≡ g)
    → ((g : ℕ) (xs : List JavaType) → t ≡ ty.Class g xs → args ≡ xs) → ((g : ℕ) (xs : List JavaType) → t ≡ ty.Class g xs → args' ≡ xs)
    → (IsRaw w c args → ⊥) → IfOk r (λ u. u ≡ substitute args' d) → IfOk r (λ u. IsSuperBy w t d u)
plain_super w t d c args args' r is number first second full made =
    let g = is.1.0 in
    let xs = is.1.1 in
    let parts = class_parts w is.0.0 t g xs is.0.1 is.1.2 in
    let count : length xs ≡ parts.0.params = elim parts.2 [
      | inr len ↦ len
      | inl none ↦ no_params parts.0.params xs none (λ some. full (first g xs is.1.2 ∙ none, (parts.0, ap (slice_get w.types) (number g xs is.1.2) ∙ parts.1, some)))
    ] in
    then_ok r (λ u e. (g, xs, is.1.2, parts.0, parts.1, inl (count, e ∙ ap (λ ys. substitute ys d) (second g xs is.1.2)))) made
  where
    no_params : (n : ℕ) (xs : List JavaType) → xs ≡ [] → (0 < n → ⊥) → length xs ≡ n
    no_params zero xs none not = ap length none
    no_params (suc n) xs none not = absurd (not (omega arith))

    then_ok : (r : Result JavaType NoMemory) → ((u : JavaType) → u ≡ substitute args' d → IsSuperBy w t d u) → IfOk r (λ u. u ≡ substitute args' d) → IfOk r (λ u. IsSuperBy w t d u)
    then_ok (Ok u) step h = step u h
    then_ok (Err e) step h = tt

pub read_as : (items : List JavaType) (at : ℕ) (x t : JavaType) → slice_get items at ≡ Some t → x ≡ get_or items at x → x ≡ t
read_as items at x t there e =
    let read : slice_get items at ≡ Some x = slice_get_read items (length items) at x refl (slice_get_within items at t there) e in
    cc (read, there)

-- one of the supertypes that are read from the class of t
pub super_read : (w : World) (t x : JavaType) (g c : ℕ) (xs items : List JavaType) (i : ℕ) (d u : JavaType) → t ≡ ty.Class g xs → x ≡ t → ((g : ℕ) (xs : List JavaType) → x ≡ ty.Class g xs → c ≡ g)
    → ((d : JavaType) → ((k : ℕ) × (slice_get items k ≡ Some d)) ↔ IsDirectSuper w c d) → slice_get items i ≡ Some d → IsSuperBy w t d u → IsDeclaredAbove w t u
super_read w t x g c xs items i d u shape is number supers there by =
    above_by w g xs t d u shape (subst (λ c. IsDirectSuper w c d) (number g xs (is ∙ shape)) ((supers d).0 (i, there))) by

module _ (w : World) (sups : HaveClassSupers w) where
  pub class_within : (n : ℕ) (t : JavaType) → IsClassOver w n t → (g : ℕ) × (xs : List JavaType) × (t ≡ ty.Class g xs) × (g < length w.types)
  class_within n t h =
      let parts = class_parts w n t h.1.0 h.1.1 h.0 h.1.2 in
      (h.1.0, h.1.1, h.1.2, slice_get_within w.types h.1.0 parts.0 parts.1)

  pub above_over : (n : ℕ) (t u : JavaType) → IsTypeOver w n t → IsDeclaredAbove w t u → IsClassOver w n u
  above_over n t u over h = declared_over w sups n h.0 h.1 u (subst (IsTypeOver w n) h.2 over) h.3

  above_sub : (t u : JavaType) → IsDeclaredAbove w t u → Subtype w t u
  above_sub t u h = subst (λ t. Subtype w t u) (sym h.2) (declared h.3)

-- the declared supertypes of t are added one after the other

module _ (w : World) (t : JavaType) (old : List JavaType) where
  pub climbing_begins : (ds : List JavaType) → IsClimbing w t old old ds 0
  climbing_begins ds = record { kept = λ k u at. at; only = λ u h. inl h; covered = λ k d u lt. absurd (omega (arith, lt)) }

  pub climbing_next : (now new ds : List JavaType) (i : ℕ) (d u : JavaType) (g : ℕ) (xs : List JavaType) → IsClimbing w t old now ds i → slice_get ds i ≡ Some d → IsSuperBy w t d u
      → IsDeclaredAbove w t u → u ≡ ty.Class g xs → Takes now new u → IsClimbing w t old new ds (i + 1)
  climbing_next now new ds i d u g xs h at by above shape takes = record {
    kept = λ k v was. taken_kept now new u takes k v (h.kept k v was);
    only = λ v in_new. elim (taken_only now new u takes v in_new) [
      | inl was ↦ h.only v was
      | inr e ↦ inr (subst (IsDeclaredAbove w t) (sym e) above)
    ];
    covered = λ k e v lt at' by'. elim (lower_or_last k i lt) [
      | inl low ↦ covered_longer now new (taken_kept now new u takes) v (h.covered k e v low at' by')
      | inr last ↦
          let is : e ≡ d = cc (at, ap (slice_get ds) (sym last) ∙ at') in
          subst (IsCovered new) (one_super_by w t d u v by (subst (λ d. IsSuperBy w t d v) is by')) (taken_covered now new u takes g xs shape)
    ];
  }

  pub climbing_ends : (new ds : List JavaType) (i c : ℕ) (xs : List JavaType) → t ≡ ty.Class c xs → IsClimbing w t old new ds i → length ds ≤ i
      → ((d : JavaType) → IsDirectSuper w c d → (k : ℕ) × (slice_get ds k ≡ Some d)) → Climbs w t old new
  climbing_ends new ds i c xs shape h le all = record {
    kept = h.kept;
    only = h.only;
    covered = λ u up.
        let number = (same_class up.0 c up.1 xs (sym up.2 ∙ shape)).0 in
        let sup = up.3 in
        let at = all sup.2 (subst (λ c. IsDirectSuper w c sup.2) number (sup.0, sup.1, sup.3, sup.4)) in
        let lt = slice_get_within ds at.0 sup.2 at.1 in
        h.covered at.0 sup.2 u (omega (arith, lt, le)) at.1 (up.0, up.1, up.2, sup.0, sup.1, sup.5);
  }

  pub climbing_collides : (now ds : List JavaType) (i : ℕ) (u : JavaType) → IsClimbing w t old now ds i → IsDeclaredAbove w t u → ClashOne now u → Collide w t old
  climbing_collides now ds i u h above k = (k.0, k.1, u, k.3, k.2, h.only k.1 k.4, inr above, k.5)

-- the search above a class type

only_item : {A : Type 0} (x t : A) (k : ℕ) → slice_get (x ∷ []) k ≡ Some t → x ≡ t
only_item x t zero e = cc e
only_item x t (suc k) e = absurd (cc e)

pub climb_begins : (w : World) (c : ℕ) (info : TypeInfo) (found : List JavaType) (places : List ℕ) → slice_get w.types c ≡ Some info → length places ≡ length w.types → HasPlaces found places
    → found ≡ with_own c info.params ∷ [] → IsClimb w info.params (with_own c info.params) found places 0
climb_begins w c info found places at size placed made = record {
  size = size;
  placed = placed;
  begun = (0, ap (λ ts. slice_get ts 0) made);
  above = λ t h.
      let is = only_item (with_own c info.params) t h.0 (ap (λ ts. slice_get ts h.0) (sym made) ∙ h.1) in
      subst (λ t. Subtype w (with_own c info.params) t × IsClassOver w info.params t) is (same, (own_over w c info at, (c, variables 0 info.params, refl)));
  covered = λ k t u lt. absurd (omega (arith, lt));
}

module _ (w : World) (sups : HaveClassSupers w) (n : ℕ) (s : JavaType) (found : List JavaType) (places : List ℕ) (i : ℕ) (climb : IsClimb w n s found places i) where
  pub climb_type : (t : JavaType) → slice_get found i ≡ Some t → IsClassOver w n t
  climb_type t at = (climb.above t (i, at)).1

  pub climb_on : (new : List JavaType) (places' : List ℕ) (t : JavaType) → slice_get found i ≡ Some t → length places' ≡ length w.types → HasPlaces new places' → Climbs w t found new
      → IsClimb w n s new places' (i + 1)
  climb_on new places' t at size placed up = record {
    size = size;
    placed = placed;
    begun = (climb.begun.0, up.kept climb.begun.0 s climb.begun.1);
    above = λ u h. elim (up.only u h) [
      | inl was ↦ climb.above u was
      | inr k ↦ (through (climb.above t (i, at)).0 (above_sub w sups t u k), above_over w sups n t u (climb.above t (i, at)).1.0 k)
    ];
    covered = λ k v u lt at' above. elim (lower_or_last k i lt) [
      | inl low ↦
          let within = slice_get_within found i t at in
          let was = there_is found k (omega (arith, low, within)) in
          let is : was.0 ≡ v = cc (up.kept k was.0 was.1, at') in
          covered_longer found new up.kept u (climb.covered k v u low (was.1 ∙ ap (λ t. Some t) is) above)
      | inr last ↦
          let is : t ≡ v = cc (up.kept i t at, ap (slice_get new) (sym last) ∙ at') in
          up.covered u (subst (λ t. IsDeclaredAbove w t u) (sym is) above)
    ];
  }

  pub climb_collides : (t : JavaType) → slice_get found i ≡ Some t → Collide w t found → (g : ℕ) × IsBelowTwo w s g
  climb_collides t at h = (h.0, (h.1, h.2, h.3, h.4, up h.1 h.5, up h.2 h.6, h.7))
    where
      up : (u : JavaType) → IsListed found u ⊎ IsDeclaredAbove w t u → Subtype w s u
      up u (inl was) = (climb.above u was).0
      up u (inr k) = through (climb.above t (i, at)).0 (above_sub w sups t u k)

  pub climb_short : length found ≤ 2 * length w.types
  climb_short = at_most_two w found places climb.placed (λ k t at. class_within w sups n t (climb.above t (k, at)).1)

-- where the declared supertypes of all that is listed are covered, all that is above s is

module _ (w : World) (sups : HaveClassSupers w) (n : ℕ) (ts : List JavaType) (over : (t : JavaType) → IsListed ts t → IsTypeOver w n t)
    (closed : (t u : JavaType) → IsListed ts t → IsDeclaredAbove w t u → IsCovered ts u) where
  -- the declared supertypes of a raw type are covered where those of a parameterization are
  raw_covered : (c : ℕ) (xs : List JavaType) (t : JavaType) → IsListed ts (ty.Class c xs) → IsDeclaredSuper w c [] t → IsCovered ts t
  raw_covered c xs t listed h =
      let parts = class_parts w n (ty.Class c xs) c xs (over (ty.Class c xs) listed) refl in
      let info : parts.0 ≡ h.0 = cc (parts.1, h.1) in
      let sup = sups.supers c h.0 h.2 h.1 (h.0, h.1, h.3, h.4) in
      let bare : xs ≡ [] → IsCovered ts t = λ none. closed (ty.Class c xs) t listed (c, xs, refl, subst (λ xs. IsDeclaredSuper w c xs t) (sym none) h) in
      elim parts.2 [
        | inl none ↦ bare none
        | inr len ↦
            let count : length xs ≡ h.0.params = len ∙ ap (λ (i : TypeInfo). i.params) info in
            elim h.5 [
              | inl plain ↦ bare (no_items xs (count ∙ sym plain.0))
              | inr flat ↦
                  bare_covered ts (substitute xs h.2) t sup.1.0 (map (substitute xs) sup.1.1) (ap (substitute xs) sup.1.2 ∙ put_class xs sup.1.0 sup.1.1)
                  (flat.2 ∙ ap erased sup.1.2 ∙ erased_class sup.1.0 sup.1.1) (closed (ty.Class c xs) (substitute xs h.2) listed (c, xs, refl, (h.0, h.1, h.2, h.3, h.4, inl (count, refl))))
            ]
      ]
    where
      no_items : (xs : List JavaType) → length xs ≡ 0 → xs ≡ []
      no_items [] e = refl
      no_items (x ∷ xs) e = absurd (omega (arith, e))

  abbrev IsReached : JavaType → Type 0
  IsReached t = IsCovered ts t ⊎ (t ≡ object_type)

  class_only : (s : JavaType) → IsReached s → (c : ℕ) × (xs : List JavaType) × (s ≡ ty.Class c xs)
  class_only s (inl h) = (h.0, h.1, h.3)
  class_only s (inr e) = (0, [], e)

  all_reached : (s t : JavaType) → Subtype w s t → IsReached s → IsReached t
  all_reached s t same h = h
  all_reached s t (through {m = m} a b) h = all_reached m t b (all_reached s m a h)
  all_reached s t (declared {c = c} {args = xs} up) (inl h) =
      let is = same_class h.0 c h.1 xs (sym h.3) in
      inl (elim h.5 [
        | inl none ↦ raw_covered c h.2 t (subst (λ c. IsListed ts (ty.Class c h.2)) is.0 h.4) (subst (λ xs. IsDeclaredSuper w c xs t) (sym is.1 ∙ none) up)
        | inr alike ↦ closed (ty.Class h.0 h.2) t h.4 (c, xs, ap (λ c. ty.Class c h.2) is.0 ∙ ap (λ xs. ty.Class c xs) (sym alike ∙ is.1), up)
      ])
  all_reached s t (declared {c = c} {args = xs} up) (inr e) =
      let zero_is : c ≡ 0 = (same_class c 0 xs [] e).0 in
      let none = (sups.top up.0 (subst (λ c. slice_get w.types c ≡ Some up.0) zero_is up.1)).1 in
      absurd (cc (ap (λ xs. slice_get xs up.3) none, up.4))
  all_reached s t (object r) h = inr refl
  all_reached s t (raw c xs) (inl h) = inl (bare_covered ts s t c xs refl refl h)
  all_reached s t (raw c xs) (inr e) = inr (ap (λ c. ty.Class c []) (same_class c 0 xs [] e).0)
  all_reached s t (null r) h = let k = class_only s h in absurd (cc (null_kind, class_kind k.0 k.1, k.2))
  all_reached s t (arrays {s = x} r r' up) h = let k = class_only s h in absurd (cc (array_kind x, class_kind k.0 k.1, k.2))
  all_reached s t char_int h = let k = class_only s h in absurd (cc (primitive_kind prim.Char, class_kind k.0 k.1, k.2))
  all_reached s t int_long h = let k = class_only s h in absurd (cc (primitive_kind prim.Int, class_kind k.0 k.1, k.2))

  pub bases_listed : (s t : JavaType) (g : ℕ) → IsCovered ts s → Subtype w s t → Parameterizes g t → IsListed ts t
  bases_listed s t g covered up is = elim (all_reached s t up (inl covered)) [
    | inl h ↦
        let shape = same_class g h.0 is.0 h.1 (sym is.1 ∙ h.3) in
        elim h.5 [
          | inl none ↦ absurd (is.2 (shape.1 ∙ none))
          | inr alike ↦ (h.4.0, h.4.1 ∙ ap (λ u. Some u) (ap (λ xs. ty.Class h.0 xs) (sym alike) ∙ sym h.3))
        ]
    | inr e ↦ absurd (is.2 (same_class g 0 is.0 [] (sym is.1 ∙ e)).1)
  ]

pub climb_ends : (w : World) → HaveClassSupers w → (n c : ℕ) (found : List JavaType) (places : List ℕ) (i : ℕ) → IsClimb w n (with_own c n) found places i → length found ≤ i → IsSingle w c n
climb_ends w sups n c found places i climb le g t u is_t is_u up_t up_u =
    let s = with_own c n in
    let over : (t : JavaType) → IsListed found t → IsTypeOver w n t = λ t k. (climb.above t k).1.0 in
    let closed : (t u : JavaType) → IsListed found t → IsDeclaredAbove w t u → IsCovered found u =
    λ t u k above. let lt = slice_get_within found k.0 t k.1 in climb.covered k.0 t u (omega (arith, lt, le)) k.1 above in
    let own = (climb.above s climb.begun).1.1 in
    let covered : IsCovered found s = (own.0, own.1, own.1, own.2, (climb.begun.0, climb.begun.1 ∙ ap (λ t. Some t) own.2), inr refl) in
    placed_single found places climb.placed g t u is_t is_u (bases_listed w sups n found over closed s t g covered up_t is_t) (bases_listed w sups n found over closed s u g covered up_u is_u)

pub next_too : (P : ℕ → Type 0) (c : ℕ) → ((d : ℕ) → d < c → P d) → P c → (d : ℕ) → d < c + 1 → P d
next_too P c before here d lt = elim (lower_or_last d c lt) [ inl low ↦ before d low | inr last ↦ subst P (sym last) here ]

-- Where no class is above itself, one with one way up to parameterized types is below two of one class only where the class on that way is.
use Rattle.std.proofs.Common.{◌≡◌, ℕ, ◌+◌, ◌<◌, ◌≤◌, Bool, true, List, [], Some, ◌⊎◌, inl, inr, refl, sym, ap, ◌∙◌, subst, length, arith}
use Rattle.std.specs.Prelude.{slice_get, slice_set}
use Rattle.std.proofs.lemmas.Option.{slice_get_within}
use Rattle.class_world.specs.declared.world.World.{World}
use Rattle.class_world.specs.declared.world.TypeInfo.{TypeInfo}
use Rattle.class_world.specs.declared.world.JavaType.{JavaType}
use Rattle.class_world.specs.declared.world.JavaType.TheVariants as ty
use Rattle.class_world.specs.Types.{variables, with_own, IsTypeOver}
use Rattle.class_world.specs.DirectSupers.{IsDirectSuper}
use Rattle.class_world.specs.Subtypes.{Subtype, IsDeclaredSuper, Parameterizes}
use Rattle.class_world.specs.Sound.{HaveClassSupers, IsClassOver}
use Rattle.class_world.specs.Merged.{declared_supers, supers_in}
use Rattle.class_world.specs.Sequences.{IsSequence}
use Rattle.class_world.specs.Ordered.{IsClassBelowTwo, IsSingleClass}
use Rattle.class_world.specs.Climbs.{FlagBases, HasBase, HasOneWay, IsFlagged}
use Rattle.class_world.proofs.Forms.{same_class}
use Rattle.class_world.proofs.Substs.{variables_length}
use Rattle.class_world.proofs.Orders.{class_parts, own_over}
use Rattle.class_world.proofs.Lifts.{bare, base_of_own, one_base}
use Rattle.class_world.proofs.Steps.{put_same, step_up}
use Rattle.class_world.proofs.Ranks.{not_above_itself}
use Rattle.class_world.proofs.Searches.{direct_at, flag_at, set_kept}
use Rattle.class_world.proofs.Words.{same_or_other, set_here, set_there}
use Rattle.class_world.proofs.Transports.{place, place_falls}

not_flat : (g h : ℕ) (u : JavaType) → Parameterizes g u → u ≡ ty.Class h [] → ⊥
not_flat g h u is e = is.2 (same_class g h is.0 [] (sym is.1 ∙ e)).1

pub not_two : (w : World) (c : ℕ) → IsSingleClass w c → IsClassBelowTwo w c → ⊥
not_two w c single h = h.3.6 (single h.0 h.1 h.2 h.3.0 h.3.1 h.3.2 h.3.3 h.3.4 h.3.5)

-- a class whose flag is not set is below none
pub unflagged_single : (w : World) (flags : List Bool) → FlagBases w flags → (c : ℕ) → (slice_get flags c ≡ Some true → ⊥) → IsSingleClass w c
unflagged_single w flags flagged c not info at g t u p q a b =
    let lt : c < length flags = subst (λ n. c < n) (sym flagged.0) (slice_get_within w.types c info at) in
    absurd (elim (flag_at flags c lt) [ inl holds ↦ not holds | inr fails ↦ flagged.1 c info g fails at (t, p, a) ])

-- of the first i types at most one has its flag set, or none

abbrev pub OneFlagged : List Bool → List JavaType → ℕ → Type 0
OneFlagged flags ds i = (j k : ℕ) (d e : JavaType) → j < i → k < i → slice_get ds j ≡ Some d → slice_get ds k ≡ Some e → IsFlagged flags d → IsFlagged flags e → j ≡ k

abbrev pub NoneFlagged : List Bool → List JavaType → ℕ → Type 0
NoneFlagged flags ds i = (k : ℕ) (d : JavaType) → k < i → slice_get ds k ≡ Some d → IsFlagged flags d → ⊥

lower_or_last : (k i : ℕ) → k < i + 1 → (k < i) ⊎ (k ≡ i)
lower_or_last k i h = grind (arith, h)

pub none_yet : (flags : List Bool) (ds : List JavaType) → NoneFlagged flags ds 0
none_yet flags ds k d lt = absurd (omega (arith, lt))

pub one_yet : (flags : List Bool) (ds : List JavaType) → OneFlagged flags ds 0
one_yet flags ds j k d e lt = absurd (omega (arith, lt))

pub first_flagged : (flags : List Bool) (ds : List JavaType) (i : ℕ) → NoneFlagged flags ds i → OneFlagged flags ds (i + 1)
first_flagged flags ds i none j k d e lt_j lt_k at_j at_k set_j set_k = elim (lower_or_last j i lt_j) [
  | inl low ↦ absurd (none j d low at_j set_j)
  | inr last_j ↦ elim (lower_or_last k i lt_k) [ inl low ↦ absurd (none k e low at_k set_k) | inr last_k ↦ last_j ∙ sym last_k ]
]

-- the flag that is read is that of the type's class
pub flag_read : (flags : List Bool) (x : JavaType) (g : ℕ) → ((h : ℕ) (args : List JavaType) → x ≡ ty.Class h args → g ≡ h) → IsFlagged flags x → slice_get flags g ≡ Some true
flag_read flags x g read is = ap (slice_get flags) (read is.0 is.1 is.2) ∙ is.3

pub none_next : (flags : List Bool) (ds : List JavaType) (i : ℕ) (x : JavaType) → NoneFlagged flags ds i → slice_get ds i ≡ Some x → (IsFlagged flags x → ⊥) → NoneFlagged flags ds (i + 1)
none_next flags ds i x none at not k d lt at_k set = elim (lower_or_last k i lt) [
  | inl low ↦ none k d low at_k set
  | inr last ↦ let alike : d ≡ x = cc (ap (slice_get ds) (sym last) ∙ at_k, at) in not (subst (IsFlagged flags) alike set)
]

pub one_next : (flags : List Bool) (ds : List JavaType) (i : ℕ) (x : JavaType) → OneFlagged flags ds i → slice_get ds i ≡ Some x → (IsFlagged flags x → ⊥) → OneFlagged flags ds (i + 1)
one_next flags ds i x one at not j k d e lt_j lt_k at_j at_k set_j set_k = elim (lower_or_last j i lt_j) [
  | inl low_j ↦ elim (lower_or_last k i lt_k) [
    | inl low_k ↦ one j k d e low_j low_k at_j at_k set_j set_k
    | inr last ↦ let alike : e ≡ x = cc (ap (slice_get ds) (sym last) ∙ at_k, at) in absurd (not (subst (IsFlagged flags) alike set_k))
  ]
  | inr last ↦ let alike : d ≡ x = cc (ap (slice_get ds) (sym last) ∙ at_j, at) in absurd (not (subst (IsFlagged flags) alike set_j))
]

pub one_end : (w : World) (flags : List Bool) (c : ℕ) (ds : List JavaType) (i : ℕ) → ds ≡ declared_supers w c → OneFlagged flags ds i → length ds ≤ i → HasOneWay w flags c
one_end w flags c ds i alike one le j k d e at_j at_k =
    let read_j = ap (λ l. slice_get l j) alike ∙ at_j in
    let read_k = ap (λ l. slice_get l k) alike ∙ at_k in
    let lt_j = slice_get_within ds j d read_j in
    let lt_k = slice_get_within ds k e read_k in
    one j k d e (omega (arith, lt_j, le)) (omega (arith, lt_k, le)) read_j read_k

-- of the first i types none is of a marked class
pub unmarked_next : (marks : List Bool) (ds : List JavaType) (i g : ℕ) (x : JavaType) → ((k h : ℕ) (args : List JavaType) → k < i → slice_get ds k ≡ Some (ty.Class h args) → slice_get marks h ≡ Some true → ⊥) → slice_get ds i ≡ Some x
    → ((h : ℕ) (args : List JavaType) → x ≡ ty.Class h args → g ≡ h) → (slice_get marks g ≡ Some true → ⊥) → (k h : ℕ) (args : List JavaType) → k < i + 1 → slice_get ds k ≡ Some (ty.Class h args) → slice_get marks h ≡ Some true → ⊥
unmarked_next marks ds i g x before at read not k h args lt at' set = elim (lower_or_last k i lt) [
  | inl low ↦ before k h args low at' set
  | inr last ↦ let shape : x ≡ ty.Class h args = cc (at, ap (slice_get ds) (sym last) ∙ at') in not (ap (slice_get marks) (read h args shape) ∙ set)
]

-- a class that is marked, among those that are below two

pub marked_next : (w : World) (marks : List Bool) (c : ℕ) → ((d : ℕ) → slice_get marks d ≡ Some true → IsClassBelowTwo w d) → IsClassBelowTwo w c → (d : ℕ) → slice_get (slice_set marks c true) d ≡ Some true → IsClassBelowTwo w d
marked_next w marks c before two d set = elim (same_or_other c d) [
  | inl e ↦ subst (IsClassBelowTwo w) e two
  | inr other ↦ before d (sym (set_there marks c d true other) ∙ set)
]

-- of the first i listed classes each that is not marked is below one of each
abbrev pub SinglesBefore : World → List ℕ → List Bool → ℕ → Type 0
SinglesBefore w listed marks i = (k c : ℕ) → k < i → slice_get listed k ≡ Some c → (slice_get marks c ≡ Some true → ⊥) → IsSingleClass w c

pub single_next : (w : World) (listed : List ℕ) (marks : List Bool) (i x : ℕ) → SinglesBefore w listed marks i → slice_get listed i ≡ Some x → IsSingleClass w x → SinglesBefore w listed marks (i + 1)
single_next w listed marks i x before at here k c lt at' not = elim (lower_or_last k i lt) [
  | inl low ↦ before k c low at' not
  | inr last ↦ let alike : x ≡ c = cc (at, ap (slice_get listed) (sym last) ∙ at') in subst (IsSingleClass w) alike here
]

pub single_past : (w : World) (listed : List ℕ) (marks : List Bool) (i x : ℕ) → SinglesBefore w listed marks i → slice_get listed i ≡ Some x → x < length marks → SinglesBefore w listed (slice_set marks x true) (i + 1)
single_past w listed marks i x before at within k c lt at' not = elim (lower_or_last k i lt) [
  | inl low ↦ before k c low at' (λ was. not (set_kept marks x c was))
  | inr last ↦
      let alike : x ≡ c = cc (at, ap (slice_get listed) (sym last) ∙ at') in
      absurd (not (subst (λ c. slice_get (slice_set marks x true) c ≡ Some true) alike (set_here marks x true within)))
]

module _ (w : World) (sups : HaveClassSupers w) where
  -- a parameterized type above a class with its own variables is that one, or above a declared supertype
  pub base_way : (c g : ℕ) (info : TypeInfo) (t : JavaType) → slice_get w.types c ≡ Some info → Parameterizes g t → Subtype w (with_own c info.params) t
      → (t ≡ with_own c info.params) ⊎ ((k : ℕ) × (d : JavaType) × (slice_get info.supers k ≡ Some d) × Subtype w d t)
  base_way c g info t at is up = elim (step_up w sups (with_own c info.params) t up info.params c (variables 0 info.params) refl (own_over w c info at)) [
    | inl own ↦ inl own
    | inr (inl flat) ↦ absurd (not_flat g c t is flat)
    | inr (inr (inl top)) ↦ absurd (not_flat g 0 t is top)
    | inr (inr (inr m)) ↦ inr (over m.0 m.1 m.2)
  ]
    where
      over : (m : JavaType) → IsDeclaredSuper w c (variables 0 info.params) m → Subtype w m t → (k : ℕ) × (d : JavaType) × (slice_get info.supers k ≡ Some d) × Subtype w d t
      over m h high =
          let alike : h.0 ≡ info = cc (h.1, at) in
          let there : slice_get info.supers h.3 ≡ Some h.2 = ap (λ (i : TypeInfo). slice_get i.supers h.3) (sym alike) ∙ h.4 in
          let len : length (variables 0 info.params) ≡ info.params = variables_length 0 info.params in
          elim h.5 [
            | inl plain ↦ (h.3, h.2, there, subst (λ m. Subtype w m t) (plain.1 ∙ put_same w info.params h.2 (sups.supers c info h.2 at (info, at, h.3, there)).0) high)
            | inr flat ↦
                let none : length (variables 0 info.params) ≡ 0 = ap length flat.0 in
                let some : 0 < info.params = subst (λ (i : TypeInfo). 0 < i.params) alike flat.1 in
                absurd (omega (arith, len, none, some))
          ]

  module _ (listed : List ℕ) (seq : IsSequence w listed) where
    -- no parameterization of a class is above one of its declared supertypes
    pub not_over : (c : ℕ) (info : TypeInfo) (k : ℕ) (d u : JavaType) (us : List JavaType) → slice_get w.types c ≡ Some info → slice_get info.supers k ≡ Some d → u ≡ ty.Class c us → Subtype w d u → ⊥
    not_over c info k d u us at there shape up =
        let direct : IsDirectSuper w c d = (info, at, k, there) in
        let sup = (sups.supers c info d at direct).1 in
        let high : Subtype w (ty.Class sup.0 sup.1) (ty.Class c us) = subst (λ d. Subtype w d (ty.Class c us)) sup.2 (subst (Subtype w d) shape up) in
        not_above_itself w sups (place listed) (place_falls w listed seq) c (sup.0, sup.1, subst (IsDirectSuper w c) sup.2 direct, bare w sups sup.0 c sup.1 us high)

    -- a class is below at most one parameterization of each class where its declared supertypes agree on them
    pub joined : (c : ℕ) → ((j k : ℕ) (d e : JavaType) (g : ℕ) (t u : JavaType) → slice_get (declared_supers w c) j ≡ Some d → slice_get (declared_supers w c) k ≡ Some e → Parameterizes g t → Parameterizes g u
        → Subtype w d t → Subtype w e u → t ≡ u) → IsSingleClass w c
    joined c agree info at g t u p q a b = go (base_way c g info t at p a) (base_way c g info u at q b)
      where
        -- a type that is the class's own and another over a supertype
        apart : (t u : JavaType) → t ≡ with_own c info.params → Parameterizes g t → Parameterizes g u → (k : ℕ) (d : JavaType) → slice_get info.supers k ≡ Some d → Subtype w d u → ⊥
        apart t u e p q k d there up =
            let number : g ≡ c = (same_class g c p.0 (variables 0 info.params) (sym p.1 ∙ e)).0 in
            not_over c info k d u q.0 at there (q.1 ∙ ap (λ g. ty.Class g q.0) number) up

        at_place : (k : ℕ) (d : JavaType) → slice_get info.supers k ≡ Some d → slice_get (supers_in (slice_get w.types c)) k ≡ Some d
        at_place k d there = ap (λ o. slice_get (supers_in o) k) at ∙ there

        go : (t ≡ with_own c info.params) ⊎ ((k : ℕ) × (d : JavaType) × (slice_get info.supers k ≡ Some d) × Subtype w d t)
            → (u ≡ with_own c info.params) ⊎ ((k : ℕ) × (d : JavaType) × (slice_get info.supers k ≡ Some d) × Subtype w d u) → t ≡ u
        go (inl e) (inl f) = e ∙ sym f
        go (inl e) (inr m) = absurd (apart t u e p q m.0 m.1 m.2 m.3)
        go (inr m) (inl f) = absurd (apart u t f q p m.0 m.1 m.2 m.3)
        go (inr m) (inr n) = agree m.0 n.0 m.1 n.1 g t u (at_place m.0 m.1 m.2) (at_place n.0 n.1 n.2) p q m.3 n.3

    module _ (flags : List Bool) (flagged : FlagBases w flags) where
      -- a class type below a parameterized type has its flag set
      flag_set : (n : ℕ) (d : JavaType) (g : ℕ) → IsClassOver w n d → HasBase w d g → IsFlagged flags d
      flag_set n d g is h =
          let c = is.1.0 in
          let xs = is.1.1 in
          let over : IsTypeOver w n (ty.Class c xs) = subst (IsTypeOver w n) is.1.2 is.0 in
          let parts = class_parts w n (ty.Class c xs) c xs over refl in
          let own = base_of_own w sups n c g xs parts.0 over parts.1 (subst (λ d. HasBase w d g) is.1.2 h) in
          let lt : c < length flags = subst (λ n. c < n) (sym flagged.0) (slice_get_within w.types c parts.0 parts.1) in
          (c, xs, is.1.2, elim (flag_at flags c lt) [ inl holds ↦ holds | inr fails ↦ absurd (flagged.1 c parts.0 g fails parts.1 own) ])

      pub one_way : (c : ℕ) → HasOneWay w flags c → ((g : ℕ) (args : List JavaType) → IsDirectSuper w c (ty.Class g args) → IsSingleClass w g) → IsSingleClass w c
      one_way c way before = joined c (λ j k d e g t u at_j at_k p q a b.
          let direct = (direct_at w c d).0 (j, at_j) in
          let other = (direct_at w c e).0 (k, at_k) in
          let first = sups.supers c direct.0 d direct.1 direct in
          let second = sups.supers c other.0 e other.1 other in
          let place_is : j ≡ k = way j k d e at_j at_k (flag_set direct.0.params d g first (t, p, a)) (flag_set other.0.params e g second (u, q, b)) in
          let alike : e ≡ d = cc (at_k, ap (slice_get (declared_supers w c)) (sym place_is) ∙ at_j) in
          let class = first.1.0 in
          let xs = first.1.1 in
          let shape = first.1.2 in
          one_base w sups direct.0.params class g xs t u (before class xs (subst (IsDirectSuper w c) shape direct)) (subst (IsTypeOver w direct.0.params) shape first.0) p q (subst (λ d. Subtype w d t) shape a)
          (subst (λ d. Subtype w d u) (alike ∙ shape) b))

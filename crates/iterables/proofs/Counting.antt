-- Of the members of an interface with one name and no parameters the first that a class declares counts, or else the first, and no other.
use Rattle.std.proofs.Common.{◌≡◌, ℕ, ◌<◌, ◌≤◌, Bool, true, false, List, [], ◌∷◌, Option, None, Some, inl, inr, ◌↔◌, map, refl, sym, ap, ◌∙◌, subst, length, arith}
use Rattle.std.specs.Prelude.{slice_get}
use Rattle.std.specs.List.{Contains}
use Rattle.std.specs.List.Sorted.{IsStrictlyIncreasing}
use Rattle.std.proofs.lemmas.Bool.{cases_lt}
use Rattle.std.proofs.lemmas.Option.{slice_get_within, get_or_from_slice_get}
use Rattle.std.proofs.lemmas.List.Kept.{AllPairs-from_increasing}
use Rattle.std.specs.Prelude.{slice_index_or as get_or}
use Rattle.java_tree.specs.declared.tree.Name.{Name}
use Rattle.class_world.specs.declared.world.World.{World}
use Rattle.class_world.specs.declared.world.TypeInfo.{TypeInfo}
use Rattle.class_world.specs.declared.world.MethodInfo.{MethodInfo}
use Rattle.class_world.specs.declared.world.JavaType.{JavaType}
use Rattle.class_world.specs.declared.world.JavaType.TheVariants as ty
use Rattle.class_world.specs.Types.{substitute, variables, with_own, of_class, AreReferences}
use Rattle.class_world.specs.DirectSupers.{IsDirectSuper}
use Rattle.class_world.specs.Subtypes as order
use Rattle.class_world.specs.Subtypes.{Subtype}
use Rattle.class_world.specs.Sound.{IsSound}
use Rattle.class_world.specs.Signatures.{IsMethod, IsSeenWith, HaveOneSignatureIn}
use Rattle.class_world.specs.Inheritance.{IsDirectlyAbove, IsMemberMethod, IsMethodNamed, declared, inherited}
use Rattle.class_world.specs.Overriding.{IsClass}
use Rattle.class_world.specs.Counted as preference
use Rattle.class_world.specs.Counted.{IsOfClass, IsPreferred, from_superclass, declared_first}
use Rattle.class_world.proofs.Forms.{same_class}
use Rattle.class_world.proofs.Substs.{put_class, put_own, length_map, there_is, variables_length}
use Rattle.class_world.proofs.Orders.{class_parts, class_supers}
use Rattle.class_world.proofs.Lifts.{put_below}
use Rattle.class_world.proofs.Steps.{put_same}
use Rattle.member_methods.specs.Methods.{AreNamed}
use Rattle.member_methods.proofs.Firsts.{Among, among_all, among_none, at_contains, contains_at}
use Rattle.iterables.specs.Walks.{IsCounted}
use Rattle.iterables.specs.Told.{ComesFirst, DeclaresNamed, FindsOne, IsFirstDeclared, TellsFirst}

-- the class s is above c, with these arguments
record IsSeenAbove (w : World) (own : TypeInfo) (c s : ℕ) : Type 0 where
  args : List JavaType
  info : TypeInfo
  at : slice_get w.types s ≡ Some info
  count : length args ≡ info.params
  references : AreReferences args
  below : Subtype w (with_own c own.params) (ty.Class s args)

module _ (w : World) (sound : IsSound w) where
  -- a declared supertype
  super_seen : (c s : ℕ) (own : TypeInfo) (args : List JavaType) → slice_get w.types c ≡ Some own → IsDirectSuper w c (ty.Class s args) → IsSeenAbove w own c s
  super_seen c s own args at super =
      let sup = sound.declared.supers c own (ty.Class s args) at super in
      let is = same_class s sup.1.0 args sup.1.1 sup.1.3 in
      let same_own : super.0 ≡ own = cc (super.1, at) in
      let parts = class_parts w own.params (ty.Class s args) s args sup.0 refl in
      record {
        args = args;
        info = sup.1.2;
        at = ap (slice_get w.types) is.0 ∙ sup.1.4;
        count = ap length is.1 ∙ sup.1.5;
        references = parts.3;
        below = order.declared (
          own,
          at,
          ty.Class s args,
          super.2,
          subst (λ (i : TypeInfo). slice_get i.supers super.2 ≡ Some (ty.Class s args)) same_own super.3,
          inl (variables_length 0 own.params, sym (put_same w own.params (ty.Class s args) sup.0)),
        );
      }

  -- Object is above each type
  object_seen : (c s : ℕ) (own : TypeInfo) → slice_get w.types c ≡ Some own → s ≡ 0 → IsSeenAbove w own c s
  object_seen c s own at is =
      let lt : c < length w.types = slice_get_within w.types c own at in
      let top = there_is w.types 0 (omega (arith, lt)) in
      record {
        args = [];
        info = top.0;
        at = ap (slice_get w.types) is ∙ top.1;
        count = sym (sound.declared.top top.0 top.1).0;
        references = λ k a e. absurd (cc e);
        below = subst (λ s. Subtype w (with_own c own.params) (ty.Class s [])) (sym is) (order.object (of_class _ _));
      }

  above_seen : (c s : ℕ) (own : TypeInfo) → slice_get w.types c ≡ Some own → IsDirectlyAbove w c s → IsSeenAbove w own c s
  above_seen c s own at above = elim above [ inl u ↦ super_seen c s own u.0 at u.1 | inr u ↦ object_seen c s own at u.0 ]

  -- what is seen from the class s is seen from below it
  seen_on : (c s g : ℕ) (own : TypeInfo) (args : List JavaType) → slice_get w.types c ≡ Some own → (up : IsSeenAbove w own c s) → IsSeenWith w s g args → IsSeenWith w c g (map (substitute up.args) args)
  seen_on c s g own args at up seen =
      let same_info : seen.0 ≡ up.info = cc (seen.1, up.at) in
      let count : length up.args ≡ seen.0.params = up.count ∙ ap (λ (i : TypeInfo). i.params) (sym same_info) in
      let put : Subtype w (substitute up.args (with_own s seen.0.params)) (substitute up.args (ty.Class g args)) =
      put_below w (class_supers w sound.declared) up.args up.references (with_own s seen.0.params) (ty.Class g args) seen.5 in
      let lower : Subtype w (ty.Class s up.args) (substitute up.args (ty.Class g args)) = subst (λ t. Subtype w t (substitute up.args (ty.Class g args))) (put_own up.args s seen.0.params count) put in
      let upper : Subtype w (ty.Class s up.args) (ty.Class g (map (substitute up.args) args)) = subst (Subtype w (ty.Class s up.args)) (put_class up.args g args) lower in
      (own, at, seen.2, seen.3, length_map (substitute up.args) args ∙ seen.4, order.through up.below upper)

  -- a type is the one that declares its member, or below it
  member_seen : (c m : ℕ) → IsMemberMethod w c m → (own : TypeInfo) → slice_get w.types c ≡ Some own → (info : MethodInfo) × IsMethod w m info × ((args : List JavaType) × IsSeenWith w c info.owner args)
  member_seen c m (declared d) own at =
      let vars = variables 0 own.params in
      (d.0, d.1, (vars, subst (λ g. IsSeenWith w c g vars) (sym d.2) (own, at, own, at, variables_length 0 own.params, order.same)))
  member_seen c m (inherited {s = s} above member open_one none) own at =
      let up = above_seen c s own at above in
      let seen = member_seen s m member up.info up.at in
      (seen.0, seen.1, (map (substitute up.args) seen.2.0, seen_on c s seen.0.owner own seen.2.0 at up seen.2.1))

  none_of : {A : Type 0} (xs : List A) → length xs ≡ 0 → xs ≡ []
  none_of [] e = refl
  none_of (x ∷ xs) e = absurd (omega (arith, e))

  module _ (c : ℕ) (own : TypeInfo) (at : slice_get w.types c ≡ Some own) (n : Name) where
    -- two members of one name without parameters have one signature
    one_signature : (m k : ℕ) → IsMethodNamed w c n 0 m → IsMethodNamed w c n 0 k → HaveOneSignatureIn w c m k
    one_signature m k a b =
        let seen_m = member_seen c m a.0 own at in
        let seen_k = member_seen c k b.0 own at in
        let same_m : seen_m.0 ≡ a.1.0 = cc (seen_m.1.0, a.1.1.0) in
        let same_k : seen_k.0 ≡ b.1.0 = cc (seen_k.1.0, b.1.1.0) in
        let params_m : seen_m.0.params ≡ [] = ap (λ (i : MethodInfo). i.params) same_m ∙ none_of a.1.0.params a.1.3 in
        let params_k : seen_k.0.params ≡ [] = ap (λ (i : MethodInfo). i.params) same_k ∙ none_of b.1.0.params b.1.3 in
        let name : seen_m.0.name ≡ seen_k.0.name = ap (λ (i : MethodInfo). i.name) same_m ∙ a.1.2 ∙ sym b.1.2 ∙ ap (λ (i : MethodInfo). i.name) (sym same_k) in (
          (seen_m.0, seen_k.0, seen_m.1, seen_k.1, name),
          (
            [],
            (seen_m.0, seen_m.1, seen_m.2.0, seen_m.2.1, ap (map (substitute seen_m.2.0)) (sym params_m)),
            (seen_k.0, seen_k.1, seen_k.2.0, seen_k.2.1, ap (map (substitute seen_k.2.0)) (sym params_k)),
          ),
        )

    -- what has the signature of such a member has its name and no parameters
    named_by : (m k : ℕ) → IsMethodNamed w c n 0 m → IsMemberMethod w c k → HaveOneSignatureIn w c k m → IsMethodNamed w c n 0 k
    named_by m k a member one =
        let p = one.1.1 in
        let q = one.1.2 in
        let same_k : one.0.0 ≡ p.0 = cc (one.0.2.0, p.1.0) in
        let same_m : q.0 ≡ a.1.0 = cc (q.1.0, a.1.1.0) in
        let named_m : one.0.1 ≡ a.1.0 = cc (one.0.3.0, a.1.1.0) in
        let name : p.0.name ≡ n = ap (λ (i : MethodInfo). i.name) (sym same_k) ∙ one.0.4 ∙ ap (λ (i : MethodInfo). i.name) named_m ∙ a.1.2 in
        let len : length p.0.params ≡ 0 =
        sym (length_map (substitute p.2) p.0.params) ∙ ap length (sym p.4 ∙ q.4) ∙ length_map (substitute q.2) q.0.params ∙ ap (λ (i : MethodInfo). length i.params) same_m ∙ a.1.3 in
        (member, (p.0, p.1, name, len))

    not_listed : (k : ℕ) → Contains [] k → ⊥
    not_listed k has = let lt = has.1 in omega (arith, lt)

    none_listed : (m k : ℕ) → Contains [] m ↔ Contains [] k
    none_listed m k = (λ h. absurd (not_listed m h), λ h. absurd (not_listed k h))

    -- none of them is preferred to the one that comes first
    not_before : (k m : ℕ) → IsMethodNamed w c n 0 k → ComesFirst w (IsMethodNamed w c n 0) m → IsPreferred w [] k m → ⊥
    not_before k m named first (from_superclass has none) = not_listed k has
    not_before k m named (inl first) (preference.of_class alike is not) = not first.0
    not_before k m named (inr first) (preference.of_class alike is not) = first.0 k named is
    not_before k m named (inl first) (declared_first alike kind lt) = let low = first.1 k named (kind.1 first.0) in omega (arith, low, lt)
    not_before k m named (inr first) (declared_first alike kind lt) = let low = first.1 k named in omega (arith, low, lt)

    -- and it is to each other
    before_other : (k m : ℕ) → IsMethodNamed w c n 0 m → IsMethodNamed w c n 0 k → ComesFirst w (IsMethodNamed w c n 0) m → (IsPreferred w [] m k → ⊥) → k ≡ m
    before_other k m own named (inl first) not = elim (cases_lt m k) [
      | inl lt ↦ absurd (not (preference.of_class (none_listed m k) first.0 (λ is. not (declared_first (none_listed m k) (λ h. is, λ h. first.0) lt))))
      | inr ge ↦ elim (cases_lt k m) [
        | inl lt ↦ absurd (not (preference.of_class (none_listed m k) first.0 (λ is. let low = first.1 k named is in omega (arith, low, lt))))
        | inr le ↦ omega (arith, ge, le)
      ]
    ]
    before_other k m own named (inr first) not = elim (cases_lt m k) [
      | inl lt ↦ absurd (not (declared_first (none_listed m k) (λ h. absurd (first.0 m own h), λ h. absurd (first.0 k named h)) lt))
      | inr ge ↦ let low = first.1 k named in omega (arith, ge, low)
    ]

    -- what comes first of them
    first_of_named : (m : ℕ) → IsMethodNamed w c n 0 m → ComesFirst w (IsMethodNamed w c n 0) m → FindsOne (IsCounted w c n) (Some m)
    first_of_named m named first = (
      (named, (named.0, λ k member one less. not_before k m (named_by m k named member one) first less)),
      λ k counts. before_other k m named counts.0 first (counts.1.1 m named.0 (one_signature m k named counts.0)),
    )

    -- a member that the type declares hides those of its name that others declare
    own_alone : (m k : ℕ) → IsFirstDeclared w c n m → IsMethodNamed w c n 0 m → (d : ℕ) → d ≡ c → IsMemberMethod w d k → IsMethodNamed w c n 0 k → DeclaresNamed w c n k
    own_alone m k first named d is (declared h) b =
        let same : h.0 ≡ b.1.0 = cc (h.1.0, b.1.1.0) in
        (b.1.0, b.1.1, ap (λ (i : MethodInfo). i.owner) (sym same) ∙ h.2 ∙ is, b.1.2, none_of b.1.0.params b.1.3)
    own_alone m k first named d is (inherited above member open_one none) b =
        let own_one = first.0 in
        absurd (none m (own_one.0, own_one.1, own_one.2 ∙ sym is) (subst (λ d. HaveOneSignatureIn w d m k) (sym is) (one_signature m k named b)))

    no_interface : (d : ℕ) → d ≡ c → IsClass w d → own.interface ≡ false
    no_interface d is class =
        let same : class.0 ≡ own = cc (is, class.1, at) in
        ap (λ (i : TypeInfo). i.interface) (sym same) ∙ class.2

    -- where a class declares one of those that the type declares, it is the type
    own_class : (k : ℕ) → DeclaresNamed w c n k → IsOfClass w k → own.interface ≡ false
    own_class k own_one is =
        let same : is.1.0 ≡ own_one.0 = cc (is.1.1.0, own_one.1.0) in
        no_interface is.0 (sym is.1.2 ∙ ap (λ (i : MethodInfo). i.owner) same ∙ own_one.2) is.2

    pub first_counts : (m : ℕ) → IsFirstDeclared w c n m → FindsOne (IsCounted w c n) (Some m)
    first_counts m first = first_of_named m named (go own.interface refl)
      where
        named : IsMethodNamed w c n 0 m
        named = let h = first.0 in (declared (h.0, h.1, h.2), (h.0, h.1, h.3, ap length h.4))

        own_one : (k : ℕ) → IsMethodNamed w c n 0 k → DeclaresNamed w c n k
        own_one k b = own_alone m k first named c refl b.0 b

        least : (k : ℕ) → IsMethodNamed w c n 0 k → m ≤ k
        least k b = elim (cases_lt k m) [ inl lt ↦ absurd (first.1 k lt (own_one k b)) | inr ge ↦ ge ]

        go : (b : Bool) → own.interface ≡ b → ComesFirst w (IsMethodNamed w c n 0) m
        go false e = let h = first.0 in inl ((c, (h.0, h.1, h.2), (own, at, e)), λ k b is. least k b)
        go true e = inr (
          λ k b is. let never : true ≡ false = sym e ∙ own_class k (own_one k b) is in absurd (cc never),
          λ k b. least k b,
        )

    -- the first of the list of all of them
    pub listed_counts : (xs : List ℕ) (o : Option ℕ) → AreNamed w c n 0 xs → TellsFirst w xs o → FindsOne (IsCounted w c n) o
    listed_counts xs None are none = λ k counts. none k ((are.0 k).1 counts.0)
    listed_counts xs (Some x) are first = first_of_named x ((are.0 x).0 first.0) (elim first.1 [
      | inl h ↦ inl (h.0, λ k b is. h.1 k ((are.0 k).1 b) is)
      | inr h ↦ inr (λ k b is. h.0 k ((are.0 k).1 b) is, λ k b. h.1 k ((are.0 k).1 b))
    ])

-- ---- the first of a list

-- of ascending numbers a later one is greater
later_greater : (xs : List ℕ) (i j x y : ℕ) → IsStrictlyIncreasing xs → slice_get xs i ≡ Some x → slice_get xs j ≡ Some y → i < j → x < y
later_greater xs i j x y rises at_x at_y lt =
    let within = slice_get_within xs j y at_y in
    let low : get_or xs i 0 < get_or xs j 0 = AllPairs-from_increasing xs rises i j 0 lt within in
    let one : get_or xs i 0 ≡ x = get_or_from_slice_get xs i x 0 at_x in
    let two : get_or xs j 0 ≡ y = get_or_from_slice_get xs j y 0 at_y in
    omega (arith, low, one, two)

-- what does not stand before a number is no lower
not_lower : (xs : List ℕ) (i x k : ℕ) → IsStrictlyIncreasing xs → slice_get xs i ≡ Some x → Contains xs k → (Among xs i k → ⊥) → x ≤ k
not_lower xs i x k rises at h not =
    let there = contains_at xs k h in
    elim (cases_lt there.0 i) [
      | inl lt ↦ absurd (not (there.0, lt, there.1))
      | inr ge ↦ elim (cases_lt i there.0) [
        | inl lt ↦ let low = later_greater xs i there.0 x k rises at there.1 lt in omega (arith, low)
        | inr le ↦
            let place : there.0 ≡ i = omega (arith, ge, le) in
            let both : Some k ≡ Some x = sym there.1 ∙ ap (slice_get xs) place ∙ at in
            let same : k ≡ x = cc both in
            omega (arith, same)
      ]
    ]

module _ (w : World) (xs : List ℕ) (rises : IsStrictlyIncreasing xs) (i : ℕ) (none : (k : ℕ) → Among xs i k → IsOfClass w k → ⊥) where
  -- the first that a class declares
  pub class_told : (x : ℕ) → slice_get xs i ≡ Some x → IsOfClass w x → TellsFirst w xs (Some x)
  class_told x at is = (at_contains xs i x at, inl (is, λ k h is_k. not_lower xs i x k rises at h (λ before. none k before is_k)))

  -- no class declares any
  pub others_told : (o : Option ℕ) → length xs ≤ i → slice_get xs 0 ≡ o → TellsFirst w xs o
  others_told None full first = λ k h.
      let there = contains_at xs k h in
      let lt : there.0 < length xs = slice_get_within xs there.0 k there.1 in
      let some = there_is xs 0 (omega (arith, lt)) in
      absurd (cc (first, some.1))
  others_told (Some x) full first = (
    at_contains xs 0 x first,
    inr (
      λ k h is. none k (among_all xs i k full h) is,
      λ k h. not_lower xs 0 x k rises first h (λ before. among_none xs k before),
    ),
  )

-- Members, and what a class has from the types directly above it.
use Rattle.std.proofs.Common.{◌≡◌, ℕ, List, [], Some, inl, inr, ◌↔◌, map, refl, sym, ap, ◌∙◌, subst, length, arith}
use Rattle.std.specs.Prelude.{slice_get}
use Rattle.std.specs.List.{Contains}
use Rattle.std.specs.List.Sorted.{IsStrictlyIncreasing}
use Rattle.class_world.specs.declared.world.World.{World}
use Rattle.class_world.specs.declared.world.TypeInfo.{TypeInfo}
use Rattle.class_world.specs.declared.world.MethodInfo.{MethodInfo}
use Rattle.class_world.specs.declared.world.JavaType.{JavaType}
use Rattle.class_world.specs.declared.world.JavaType.TheVariants as ty
use Rattle.class_world.specs.Types.{substitute, variables}
use Rattle.class_world.specs.Subtypes.{same}
use Rattle.class_world.specs.Signatures.{IsMethod, IsSeenWith, HasParams, HaveOneSignatureIn}
use Rattle.class_world.specs.Inheritance.{DeclaresMethod, Inherits, IsDirectlyAbove, IsMemberMethod, declared, inherited, IsMethodNamed}
use Rattle.class_world.specs.Overriding.{IsClass, IsSuperinterface, MeetIn, Replaces}
use Rattle.class_world.proofs.Substs.{length_map, variables_length}
use Rattle.member_methods.specs.Methods.{IsCalled, IsFromInterface, IsInheritable}
use Rattle.method_ties.specs.declared.Meeting.{Meeting}
use Rattle.method_ties.specs.Sides.{AreSuperclasses, IsInherited, IsLower, IsSupertype, Meets}
use Rattle.method_ties.specs.Ties.{AreMeetings, AreReplaced}
use Rattle.method_ties.proofs.Firsts.{none_in, at_contains, contains_at}

module _ (w : World) where
  pub one_method : (m : ℕ) (i j : MethodInfo) → IsMethod w m i → IsMethod w m j → i ≡ j
  one_method m i j a b = cc (a.0, b.0)

  pub member_is_method : (c m : ℕ) → IsMemberMethod w c m → (info : MethodInfo) × IsMethod w m info
  member_is_method c m (declared d) = (d.0, d.1)
  member_is_method c m (inherited {s = s} up member not_private not_own) = member_is_method s m member

  -- a member that the type does not declare, it has from one directly above it
  from_above : (c m : ℕ) → IsMemberMethod w c m → (DeclaresMethod w c m → ⊥) → (s : ℕ) × Inherits w c s m
  from_above c m (declared d) not = absurd (not d)
  from_above c m (inherited {s = s} up member not_private not_own) not = (s, (up, member, not_private, not_own))

  -- and from each of which it is a member
  pub from_each : (c s m : ℕ) → IsInherited w c m → IsDirectlyAbove w c s → IsMemberMethod w s m → Inherits w c s m
  from_each c s m h up member = let one = (from_above c m h.0 h.1).1 in (up, member, one.2, one.3)

  known : (c s : ℕ) → IsDirectlyAbove w c s → (info : TypeInfo) × (slice_get w.types c ≡ Some info)
  known c s (inl direct) = (direct.1.0, direct.1.1)
  known c s (inr top) = (top.1.0, top.1.1)

  -- a method has its own signature where it is declared
  own_signature : (c m : ℕ) (info : TypeInfo) → slice_get w.types c ≡ Some info → DeclaresMethod w c m → HaveOneSignatureIn w c m m
  own_signature c m info at d =
      let xs = variables 0 info.params in
      let seen : IsSeenWith w d.0.owner d.0.owner xs = subst (λ o. IsSeenWith w o o xs) (sym d.2) (info, at, info, at, variables_length 0 info.params, same) in
      let there : IsSeenWith w c d.0.owner xs = subst (λ o. IsSeenWith w o d.0.owner xs) d.2 seen in
      let params : HasParams w c m (map (substitute xs) d.0.params) = (d.0, d.1, xs, there, refl) in
      ((d.0, d.0, d.1, d.1, refl), (map (substitute xs) d.0.params, params, params))

  pub not_declared : (c s m : ℕ) → Inherits w c s m → DeclaresMethod w c m → ⊥
  not_declared c s m h d = let at = known c s h.0 in h.3 m d (own_signature c m at.0 at.1 d)

  pub is_inherited : (c s m : ℕ) → Inherits w c s m → IsInherited w c m
  is_inherited c s m h = (inherited h.0 h.1 h.2 h.3, not_declared c s m h)

  -- methods of one signature have one name and number of parameters
  pub one_shape : (c m k : ℕ) (i j : MethodInfo) → HaveOneSignatureIn w c m k → IsMethod w m i → IsMethod w k j → (i.name ≡ j.name) × (length i.params ≡ length j.params)
  one_shape c m k i j h mi kj =
      let name = h.0 in
      let first : name.0 ≡ i = one_method m name.0 i name.2 mi in
      let second : name.1 ≡ j = one_method k name.1 j name.3 kj in
      let a = h.1.1 in
      let b = h.1.2 in
      let ai : a.0 ≡ i = one_method m a.0 i a.1 mi in
      let bj : b.0 ≡ j = one_method k b.0 j b.1 kj in (
        ap (λ (x : MethodInfo). x.name) (sym first) ∙ name.4 ∙ ap (λ (x : MethodInfo). x.name) second,
        ap (λ (x : MethodInfo). length x.params) (sym ai) ∙ sym (length_map (substitute a.2) a.0.params) ∙ ap length (sym a.4 ∙ b.4) ∙ length_map (substitute b.2) b.0.params
            ∙ ap (λ (x : MethodInfo). length x.params) bj,
      )

  -- a method among those of its name and number of parameters
  pub named_own : (c m : ℕ) (info : MethodInfo) → IsMethod w m info → IsMemberMethod w c m ↔ IsMethodNamed w c info.name (length info.params) m
  named_own c m info is = (λ h. (h, (info, is, refl, refl)), λ h. h.0)

  -- ---- the methods whose place m takes

  pub replaced_told : (m : ℕ) (info : MethodInfo) (ks : List ℕ) → IsMethod w m info
      → ((k : ℕ) → Contains ks k ↔ ((IsInheritable w info.owner k × IsCalled w info.name (length info.params) k) × HaveOneSignatureIn w info.owner m k)) → IsStrictlyIncreasing ks → AreReplaced w m ks
  replaced_told m info ks is has rises = (
    λ k. (
      λ h. let from = (has k).0 h in (info.owner, ((info, is, refl), from.0.0.0, from.0.0.1, from.1)),
      λ h. (has k).1 (back k h),
    ),
    rises,
  )
    where
      back : (k : ℕ) → (c : ℕ) × Replaces w c m k → (IsInheritable w info.owner k × IsCalled w info.name (length info.params) k) × HaveOneSignatureIn w info.owner m k
      back k h =
          let r = h.1 in
          let alike : r.0.0 ≡ info = one_method m r.0.0 info r.0.1 is in
          let owner : h.0 ≡ info.owner = sym r.0.2 ∙ ap (λ (x : MethodInfo). x.owner) alike in
          let kinfo = member_is_method r.1.0 k r.1.2 in
          let one = subst (λ c. HaveOneSignatureIn w c m k) owner r.3 in
          let shape = one_shape info.owner m k info kinfo.0 one is kinfo.1 in
          (((subst (λ c. (s : ℕ) × IsDirectlyAbove w c s × IsMemberMethod w s k) owner r.1, r.2), (kinfo.0, kinfo.1, sym shape.0, sym shape.1)), one)

  -- a number of no method takes no place
  pub none_replaced : (m : ℕ) (ks : List ℕ) → ks ≡ [] → ((info : MethodInfo) → IsMethod w m info → ⊥) → AreReplaced w m ks
  none_replaced m ks empty none = (
    λ k. (λ h. let no = none_in ks k empty h in absurd no, λ h. let d = h.1.0 in absurd (none d.0 d.1)),
    λ k lt. let len = ap length empty in absurd (omega (arith, len, lt)),
  )

  -- ---- what meets

  pub superclasses_are : (c : ℕ) (types supers : List ℕ) → IsClass w c → ((s : ℕ) → Contains types s ↔ IsSupertype w c s) → ((s : ℕ) → Contains supers s ↔ (Contains types s × IsClass w s))
      → AreSuperclasses w c supers
  superclasses_are c types supers class all some s = (
    λ h. let t = (some s).0 h in (class, (all s).0 t.0, t.1),
    λ h. (some s).1 ((all s).1 h.1, h.2),
  )

  pub lower_told : (c m : ℕ) (supers : List ℕ) → AreSuperclasses w c supers → IsInherited w c m → (o : ℕ) × DeclaresMethod w o m × IsClass w o → (s : ℕ) × Contains supers s × IsMemberMethod w s m
      → IsLower w c m
  lower_told c m supers are inh own h = let up = (are h.0).0 h.1 in ((h.0, up, from_each c h.0 m inh (inl up.1) h.2), own)

  pub lower_parts : (c m : ℕ) (supers : List ℕ) → AreSuperclasses w c supers → IsLower w c m → IsInherited w c m × ((s : ℕ) × Contains supers s × IsMemberMethod w s m)
  lower_parts c m supers are h =
      let s = h.0 in
      (is_inherited c s.0 m s.2, (s.0, (are s.0).1 s.1, s.2.1))

  -- the class c has k from an interface
  abbrev pub IsUpper : ℕ → ℕ → Type 0
  IsUpper c k = (i : ℕ) × IsSuperinterface w c i × Inherits w c i k

  pub upper_told : (c k : ℕ) → IsInherited w c k → IsFromInterface w c k → IsUpper c k
  upper_told c k inh h = let i = h.0 in (i.0, i.1, from_each c i.0 k inh (inl i.1.0) i.2)

  pub upper_parts : (c k : ℕ) → IsUpper c k → IsFromInterface w c k
  upper_parts c k up = ((up.0, up.1, up.2.1), up.2.2)

  pub meet_parts : (c m k : ℕ) → MeetIn w c m k → IsUpper c k × Meets w c m k
  meet_parts c m k h = let both = h.0 in (both.1, ((both.0, both.2), h.1, h.2))

  pub meet_whole : (c m k : ℕ) → IsUpper c k → Meets w c m k → MeetIn w c m k
  meet_whole c m k up h = let low = h.0 in ((low.0, up, low.1), h.1, h.2)

  -- what meets k is among the members of k's name and number of parameters
  pub meets_named : (c m k : ℕ) (info : MethodInfo) → IsMethod w k info → Meets w c m k → IsMethodNamed w c info.name (length info.params) m
  meets_named c m k info is h =
      let s = h.0.0 in
      let inh = is_inherited c s.0 m s.2 in
      let minfo = member_is_method c m inh.0 in
      let shape = one_shape c m k minfo.0 info h.2 minfo.1 is in
      (inh.0, (minfo.0, minfo.1, shape.0, shape.1))

  -- pairs of the members k of interfaces that c has, and what meets them, are the meetings
  pub meetings_told : (c : ℕ) (upper : List ℕ) (ps : List Meeting) → ((k : ℕ) → Contains upper k ↔ IsFromInterface w c k)
      → ((p : Meeting) → Contains ps p ↔ ((k : ℕ) × Contains upper k × (IsInherited w c k × (p.upper ≡ k) × Meets w c p.lower k))) → AreMeetings w c ps
  meetings_told c upper ps ups has m k = (
    λ h.
        let from = (has (record { lower = m; upper = k })).0 h in
        let is = from.2 in
        let up : IsUpper c from.0 = upper_told c from.0 is.0 ((ups from.0).0 from.1) in
        subst (MeetIn w c m) (sym is.1) (meet_whole c m from.0 up is.2),
    λ h.
        let parts = meet_parts c m k h in
        let up = parts.0 in
        (has (record { lower = m; upper = k })).1 (k, (ups k).1 (upper_parts c k up), (is_inherited c up.0 k up.2, refl, parts.1)),
  )

  pub none_meet : (c : ℕ) (ps : List Meeting) → ps ≡ [] → (IsClass w c → ⊥) → AreMeetings w c ps
  none_meet c ps empty not m k = (
    λ h. let no = none_in ps (record { lower = m; upper = k }) empty h in absurd no,
    λ h. let s = h.0.0 in absurd (not s.1.0),
  )

  -- ---- the declared supertypes

  pub supertypes_told : (c : ℕ) (info : TypeInfo) (items : List JavaType) (supers : List ℕ) → slice_get w.types c ≡ Some info → items ≡ info.supers
      → ((s : ℕ) → Contains supers s ↔ ((d : JavaType) × Contains items d × ((args : List JavaType) × (d ≡ ty.Class s args)))) → (s : ℕ) → Contains supers s ↔ IsSupertype w c s
  supertypes_told c info items supers at list has s = (
    λ h. let from = (has s).0 h in direct from.0 from.1 from.2,
    λ d.
        let same_info : d.1.0 ≡ info = cc (d.1.1, at) in
        let there : slice_get items d.1.2 ≡ Some (ty.Class s d.0) = ap (λ l. slice_get l d.1.2) list ∙ ap (λ (x : TypeInfo). slice_get x.supers d.1.2) (sym same_info) ∙ d.1.3 in
        (has s).1 (ty.Class s d.0, at_contains items d.1.2 (ty.Class s d.0) there, (d.0, refl)),
  )
    where
      direct : (d : JavaType) → Contains items d → (args : List JavaType) × (d ≡ ty.Class s args) → IsSupertype w c s
      direct d there shape =
          let place = contains_at items d there in
          (shape.0, (info, at, place.0, ap (λ l. slice_get l place.0) (sym list) ∙ place.1 ∙ ap (λ d. Some d) shape.1))

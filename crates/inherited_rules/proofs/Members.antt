-- What a type sees of its members, and what methods have in common that override each other.
use Rattle.std.proofs.Common.{◌≡◌, ℕ, ◌<◌, zero, suc, List, [], ◌∷◌, Option, None, Some, inl, inr, map, refl, sym, ap, ◌∙◌, subst, length, arith}
use Rattle.std.specs.Prelude.{slice_get}
use Rattle.std.specs.Option.{option_map}
use Rattle.std.proofs.lemmas.Option.{slice_get_within}
use Rattle.class_world.specs.declared.world.World.{World}
use Rattle.class_world.specs.declared.world.TypeInfo.{TypeInfo}
use Rattle.class_world.specs.declared.world.MethodInfo.{MethodInfo}
use Rattle.class_world.specs.declared.world.JavaType.{JavaType}
use Rattle.class_world.specs.declared.world.JavaType.TheVariants as ty
use Rattle.class_world.specs.Types.{substitute, variables, with_own, of_class, AreReferences, IsTypeOver}
use Rattle.class_world.specs.DirectSupers.{IsDirectSuper}
use Rattle.class_world.specs.Subtypes as order
use Rattle.class_world.specs.Subtypes.{Subtype}
use Rattle.class_world.specs.Sound.{IsSound, IsOfWorld}
use Rattle.class_world.specs.Signatures.{IsMethod, IsSeenWith, HaveOneSignatureIn}
use Rattle.class_world.specs.Inheritance.{IsDirectlyAbove, IsMemberMethod, declared, inherited}
use Rattle.class_world.specs.Overriding as overriding
use Rattle.class_world.specs.Overriding.{OverridesAtOnce, Overriding, at_once, through}
use Rattle.class_world.proofs.Forms.{same_class}
use Rattle.class_world.proofs.Substs.{put_class, put_own, length_map, there_is, variables_length}
use Rattle.class_world.proofs.Orders.{class_parts, class_above, class_supers, own_over, put_over}
use Rattle.class_world.proofs.Lifts.{put_below}
use Rattle.class_world.proofs.Steps.{put_same}
use Rattle.seen_methods.specs.Seen.{HasResult}
use Rattle.class_world.specs.Typed.{HaveTypes}
use Rattle.inherited_rules.specs.Parts.{IsResult}

-- the class s is above c, with these arguments
pub record IsSeenAbove (w : World) (own : TypeInfo) (c s : ℕ) : Type 0 where
  pub args : List JavaType
  pub info : TypeInfo
  pub at : slice_get w.types s ≡ Some info
  pub count : length args ≡ info.params
  pub references : AreReferences args
  pub below : Subtype w (with_own c own.params) (ty.Class s args)

module _ (w : World) (sound : IsSound w) where
  -- a declared supertype
  super_seen : (c s : ℕ) (own : TypeInfo) (args : List JavaType) → slice_get w.types c ≡ Some own → IsDirectSuper w c (ty.Class s args) → IsSeenAbove w own c s
  super_seen c s own args at super =
      let sup = sound.declared.supers c own (ty.Class s args) at super in
      let is = same_class s sup.1.0 args sup.1.1 sup.1.3 in
      let same_own : super.0 ≡ own = cc (super.1, at) in
      let parts = class_parts w own.params (ty.Class s args) s args sup.0 refl in
      record {
        args = args;
        info = sup.1.2;
        at = ap (slice_get w.types) is.0 ∙ sup.1.4;
        count = ap length is.1 ∙ sup.1.5;
        references = parts.3;
        below = order.declared (
          own,
          at,
          ty.Class s args,
          super.2,
          subst (λ (i : TypeInfo). slice_get i.supers super.2 ≡ Some (ty.Class s args)) same_own super.3,
          inl (variables_length 0 own.params, sym (put_same w own.params (ty.Class s args) sup.0)),
        );
      }

  -- Object is above each type
  object_seen : (c s : ℕ) (own : TypeInfo) → slice_get w.types c ≡ Some own → s ≡ 0 → IsSeenAbove w own c s
  object_seen c s own at is =
      let lt : c < length w.types = slice_get_within w.types c own at in
      let top = there_is w.types 0 (omega (arith, lt)) in
      record {
        args = [];
        info = top.0;
        at = ap (slice_get w.types) is ∙ top.1;
        count = sym (sound.declared.top top.0 top.1).0;
        references = λ k a e. absurd (cc e);
        below = subst (λ s. Subtype w (with_own c own.params) (ty.Class s [])) (sym is) (order.object (of_class _ _));
      }

  above_seen : (c s : ℕ) (own : TypeInfo) → slice_get w.types c ≡ Some own → IsDirectlyAbove w c s → IsSeenAbove w own c s
  above_seen c s own at above = elim above [ inl u ↦ super_seen c s own u.0 at u.1 | inr u ↦ object_seen c s own at u.0 ]

  -- what is seen from the class s is seen from below it
  seen_on : (c s g : ℕ) (own : TypeInfo) (args : List JavaType) → slice_get w.types c ≡ Some own → (up : IsSeenAbove w own c s) → IsSeenWith w s g args → IsSeenWith w c g (map (substitute up.args) args)
  seen_on c s g own args at up seen =
      let same_info : seen.0 ≡ up.info = cc (seen.1, up.at) in
      let count : length up.args ≡ seen.0.params = up.count ∙ ap (λ (i : TypeInfo). i.params) (sym same_info) in
      let put : Subtype w (substitute up.args (with_own s seen.0.params)) (substitute up.args (ty.Class g args)) =
      put_below w (class_supers w sound.declared) up.args up.references (with_own s seen.0.params) (ty.Class g args) seen.5 in
      let lower : Subtype w (ty.Class s up.args) (substitute up.args (ty.Class g args)) = subst (λ t. Subtype w t (substitute up.args (ty.Class g args))) (put_own up.args s seen.0.params count) put in
      let upper : Subtype w (ty.Class s up.args) (ty.Class g (map (substitute up.args) args)) = subst (Subtype w (ty.Class s up.args)) (put_class up.args g args) lower in
      (own, at, seen.2, seen.3, length_map (substitute up.args) args ∙ seen.4, order.through up.below upper)

  -- a type is the one that declares its member, or below it
  pub member_seen : (c m : ℕ) → IsMemberMethod w c m → (own : TypeInfo) → slice_get w.types c ≡ Some own → (info : MethodInfo) × IsMethod w m info × ((args : List JavaType) × IsSeenWith w c info.owner args)
  member_seen c m (declared d) own at =
      let vars = variables 0 own.params in
      (d.0, d.1, (vars, subst (λ g. IsSeenWith w c g vars) (sym d.2) (own, at, own, at, variables_length 0 own.params, order.same)))
  member_seen c m (inherited {s = s} above member open_one none) own at =
      let up = above_seen c s own at above in
      let seen = member_seen s m member up.info up.at in
      (seen.0, seen.1, (map (substitute up.args) seen.2.0, seen_on c s seen.0.owner own seen.2.0 at up seen.2.1))

  -- a member has one signature with itself
  pub own_signature : (c m : ℕ) (own : TypeInfo) → slice_get w.types c ≡ Some own → IsMemberMethod w c m → HaveOneSignatureIn w c m m
  own_signature c m own at member =
      let seen = member_seen c m member own at in
      let info = seen.0 in
      let args = seen.2.0 in (
        (info, info, seen.1, seen.1, refl),
        (map (substitute args) info.params, (info, seen.1, args, seen.2.1, refl), (info, seen.1, args, seen.2.1, refl)),
      )

  -- ---- the arguments of a type above are one list, and are types of the world

  none_of : (xs : List JavaType) → length xs ≡ 0 → xs ≡ []
  none_of [] e = refl
  none_of (x ∷ xs) e = absurd (omega (arith, e))

  some_of : (xs : List JavaType) (n : ℕ) → length xs ≡ suc n → xs ≡ [] → ⊥
  some_of xs n e none = let zero_is : length xs ≡ 0 = ap length none in omega (arith, e, zero_is)

  one_seen : (c g : ℕ) (xs ys : List JavaType) → IsSeenWith w c g xs → IsSeenWith w c g ys → xs ≡ ys
  one_seen c g xs ys a b = go a.2.params refl
    where
      own : a.0 ≡ b.0
      own = cc (a.1, b.1)

      count : length ys ≡ a.2.params
      count = let alike : b.2 ≡ a.2 = cc (a.3, b.3) in b.4 ∙ ap (λ (i : TypeInfo). i.params) alike

      go : (n : ℕ) → a.2.params ≡ n → xs ≡ ys
      go zero e = none_of xs (a.4 ∙ e) ∙ sym (none_of ys (count ∙ e))
      go (suc n) e =
          let alike = sound.single c a.0 a.1 g (ty.Class g xs) (ty.Class g ys) (xs, refl, some_of xs n (a.4 ∙ e)) (ys, refl, some_of ys n (count ∙ e))
          a.5 (subst (λ (i : TypeInfo). Subtype w (with_own c i.params) (ty.Class g ys)) (sym own) b.5) in
          (same_class g g xs ys alike).1

  -- a type sees one result of a method
  pub one_result : (c m : ℕ) (r q : Option JavaType) → HasResult w c m r → HasResult w c m q → r ≡ q
  one_result c m r q a b =
      let same_info : a.0 ≡ b.0 = cc (a.1.0, b.1.0) in
      let args = one_seen c b.0.owner a.2 b.2 (subst (λ (i : MethodInfo). IsSeenWith w c i.owner a.2) same_info a.3) b.3 in
      a.4 ∙ ap (λ (i : MethodInfo). option_map (substitute a.2) i.result) same_info ∙ ap (λ xs. option_map (substitute xs) b.0.result) args ∙ sym b.4

  seen_over : (c g : ℕ) (xs : List JavaType) (seen : IsSeenWith w c g xs) → IsTypeOver w seen.0.params (ty.Class g xs)
  seen_over c g xs seen =
      (class_above w (class_supers w sound.declared) seen.0.params (with_own c seen.0.params) (ty.Class g xs) seen.5 c (variables 0 seen.0.params) refl (own_over w c seen.0 seen.1)).1

  -- the result that a type sees is a type of the world
  pub result_of_world : HaveTypes w → (c m : ℕ) (r : Option JavaType) → HasResult w c m r → IsResult w r
  result_of_world typed c m None has = tt
  result_of_world typed c m (Some t) has = go has.0.result refl
    where
      go : (o : Option JavaType) → has.0.result ≡ o → IsOfWorld w t
      go None e = let never : Some t ≡ None = has.4 ∙ ap (option_map (substitute has.2)) e in absurd (cc never)
      go (Some r) e =
          let is : Some t ≡ Some (substitute has.2 r) = has.4 ∙ ap (option_map (substitute has.2)) e in
          let same : t ≡ substitute has.2 r = cc is in
          let seen = has.3 in
          let over : IsTypeOver w seen.2.params r = typed.results m has.0 seen.2 r has.1.0 seen.3 e in
          let parts = class_parts w seen.0.params (ty.Class has.0.owner has.2) has.0.owner has.2 (seen_over c has.0.owner has.2 seen) refl in
          (seen.0.params, subst (IsTypeOver w seen.0.params) (sym same) (put_over w seen.2.params seen.0.params has.2 r seen.4 parts.3 parts.4 over))

-- ---- names and numbers of parameters

-- two methods of one name and one number of parameters
abbrev pub AreNamesakes : World → ℕ → ℕ → Type 0
AreNamesakes w m k = (i : MethodInfo) × (j : MethodInfo) × IsMethod w m i × IsMethod w k j × (i.name ≡ j.name) × (length i.params ≡ length j.params)

pub signature_namesakes : (w : World) (c m k : ℕ) → HaveOneSignatureIn w c m k → AreNamesakes w m k
signature_namesakes w c m k h =
    let p = h.1.1 in
    let q = h.1.2 in
    let first : p.0 ≡ h.0.0 = cc (p.1.0, h.0.2.0) in
    let second : h.0.1 ≡ q.0 = cc (q.1.0, h.0.3.0) in (
      p.0,
      q.0,
      p.1,
      q.1,
      ap (λ (i : MethodInfo). i.name) first ∙ h.0.4 ∙ ap (λ (i : MethodInfo). i.name) second,
      sym (length_map (substitute p.2) p.0.params) ∙ ap length (sym p.4 ∙ q.4) ∙ length_map (substitute q.2) q.0.params,
    )

-- the arguments with which a type that sees one signature sees it
pub signature_params : (w : World) (c m k : ℕ) (i j : MethodInfo) → IsMethod w m i → IsMethod w k j → HaveOneSignatureIn w c m k
    → (xs : List JavaType) × (ys : List JavaType) × (map (substitute xs) i.params ≡ map (substitute ys) j.params)
signature_params w c m k i j mi kj h =
    let p = h.1.1 in
    let q = h.1.2 in
    let first : i ≡ p.0 = cc (p.1.0, mi.0) in
    let second : q.0 ≡ j = cc (q.1.0, kj.0) in
    (p.2, q.2, ap (λ (x : MethodInfo). map (substitute p.2) x.params) first ∙ sym p.4 ∙ q.4 ∙ ap (λ (x : MethodInfo). map (substitute q.2) x.params) second)

namesakes_on : (w : World) (m t k : ℕ) → AreNamesakes w m t → AreNamesakes w t k → AreNamesakes w m k
namesakes_on w m t k a b =
    let same : a.1 ≡ b.0 = cc (a.3.0, b.2.0) in
    (a.0, b.1, a.2, b.3, a.4 ∙ ap (λ (i : MethodInfo). i.name) same ∙ b.4, a.5 ∙ ap (λ (i : MethodInfo). length i.params) same ∙ b.5)

once_namesakes : (w : World) (m k : ℕ) → OverridesAtOnce w m k → AreNamesakes w m k
once_namesakes w m k (overriding.declared {c = c} h both) = signature_namesakes w c m k h.3
once_namesakes w m k (overriding.inherited {c = c} h both agree) = signature_namesakes w c m k h.2

-- a method has the name and the number of parameters of what it overrides
pub overriding_namesakes : (w : World) (m k : ℕ) → Overriding w m k → AreNamesakes w m k
overriding_namesakes w m k (at_once h) = once_namesakes w m k h
overriding_namesakes w m k (through {t = t} h rest other agree) = namesakes_on w m t k (overriding_namesakes w m t h) (overriding_namesakes w t k rest)

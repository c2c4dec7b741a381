-- Methods of one signature, judged together.
use Rattle.std.proofs.Common.{◌≡◌, ℕ, ◌+◌, ◌≤◌, Bool, true, cond, nat_eq, List, Option, Some, Result, Ok, Err, IfOk, ◌⊎◌, inl, inr, ◌↔◌, IsTrue, sym, ap, ◌∙◌, subst, length, arith}
use Rattle.std.specs.Prelude.{slice_get}
use Rattle.std.specs.List.{Contains}
use Rattle.std.proofs.lemmas.Bool.{cases_eq, eq-eqb, ne_eqb, cond-true, cond-false}
use Rattle.class_world.specs.declared.world.World.{World}
use Rattle.class_world.specs.declared.world.JavaType.{JavaType}
use Rattle.class_world.specs.Sound.{IsKnown, IsSound}
use Rattle.class_world.specs.Typed.{HaveTypes}
use Rattle.class_world.specs.Signatures.{HaveOneSignatureIn}
use Rattle.class_world.specs.Overriding.{Overriding}
use Rattle.seen_methods.specs.Seen.{HasResult, TellsResult}
use Rattle.numbered_methods.specs.declared.NumberedMethods.{NumberedMethods}
use Rattle.numbered_methods.specs.Alike.{AreAlike, IsNumbered}
use Rattle.method_ties.proofs.Firsts.{Among, among_all, at_contains}
use Rattle.inherited_rules.specs.declared.chain.Results.{Results}
use Rattle.inherited_rules.specs.Rules.{FitsResult, HasUnlikeResults, IsInherited}
use Rattle.inherited_rules.specs.Parts.{AreJudged, AreOverriddenBy, AreUnlike, AreUnresolved, HasMembers, HasUnresolved, HasUnresolvedPair, IsJudged, IsTop, IsUnlike, IsUnresolvedWith}
use Rattle.inherited_rules.specs.Chains.{AreKept, HasUnlike, IsAdded, IsAmong}
use Rattle.inherited_rules.proofs.Chained.{fits_itself}
use Rattle.inherited_rules.proofs.Members.{one_result}
use Rattle.inherited_rules.proofs.Named.{AreClear, all_clear, lower_or_last}
use Rattle.inherited_rules.proofs.Overriders.{overriding_alike}
use Rattle.inherited_rules.proofs.Pairs.{signature_swap, signature_through}

-- ---- the results of methods

-- of the first i methods these are the results
pub record AreSeen (w : World) (c : ℕ) (ms : List ℕ) (i : ℕ) (t : Results) : Type 0 where
  pub kept : AreKept w t
  pub all : (m : ℕ) (r : Option JavaType) → Among ms i m → HasResult w c m r → IsAmong t r
  pub from : (r : Option JavaType) → IsAmong t r → (m : ℕ) × Among ms i m × HasResult w c m r

among_next : (xs : List ℕ) (i x y : ℕ) → slice_get xs i ≡ Some y → Among xs (i + 1) x → Among xs i x ⊎ (x ≡ y)
among_next xs i x y at h = elim (lower_or_last h.0 i h.1) [
  | inl before ↦ inl (h.0, before, h.2)
  | inr last ↦ inr (let both : Some x ≡ Some y = sym h.2 ∙ ap (slice_get xs) last ∙ at in cc both)
]

-- what a set has beside what it had
pub put_next : (xs : List ℕ) (i y : ℕ) (old has new : ℕ → Bool) → slice_get xs i ≡ Some y → ((x : ℕ) → (has x ≡ true) ↔ ((old x ≡ true) ⊎ Among xs i x)) → ((q : ℕ) → new q ≡ cond (nat_eq y q) true (has q))
    → (x : ℕ) → (new x ≡ true) ↔ ((old x ≡ true) ⊎ Among xs (i + 1) x)
put_next xs i y old has new at both puts x = elim (cases_eq y x) [
  | inl same ↦ (λ h. inr (i, omega arith, at ∙ ap Some same), λ h. puts x ∙ cond-true _ _ _ (eq-eqb y x same))
  | inr other ↦
      let keeps : new x ≡ has x = puts x ∙ cond-false _ _ _ (ne_eqb y x other) in (
        λ h. elim ((both x).0 (sym keeps ∙ h)) [ inl was ↦ inl was | inr low ↦ inr (low.0, (let lt = low.1 in omega (arith, lt)), low.2) ],
        λ h. keeps ∙ (both x).1 (elim h [
          | inl was ↦ inl was
          | inr among ↦ elim (among_next xs i x y at among) [ inl low ↦ inr low | inr same ↦ absurd (other (sym same)) ]
        ]),
      )
]

module _ (w : World) (c : ℕ) where
  pub seen_none : (ms : List ℕ) (t : Results) → AreKept w t → ((r : Option JavaType) → IsAmong t r → ⊥) → AreSeen w c ms 0 t
  seen_none ms t kept none = record {
    kept = kept;
    all = λ m r h. let lt = h.1 in absurd (omega (arith, lt));
    from = λ r h. absurd (none r h);
  }

  pub seen_next : (ms : List ℕ) (i m : ℕ) (old new : Results) → slice_get ms i ≡ Some m → AreSeen w c ms i old → AreKept w new × ((q : Option JavaType) → IsAmong new q ↔ (IsAmong old q ⊎ HasResult w c m q))
      → AreSeen w c ms (i + 1) new
  seen_next ms i m old new at seen added = record {
    kept = added.0;
    all = λ k r among has. (added.1 r).1 (elim (among_next ms i k m at among) [
      | inl before ↦ inl (seen.all k r before has)
      | inr same ↦ inr (subst (λ x. HasResult w c x r) same has)
    ]);
    from = λ r h. elim ((added.1 r).0 h) [
      | inl was ↦ let k = seen.from r was in (k.0, (k.1.0, (let lt = k.1.1 in omega (arith, lt)), k.1.2), k.2)
      | inr has ↦ (m, (i, omega arith, at), has)
    ];
  }

  -- the next one's result is unlike one of these
  pub seen_unlike : (ms : List ℕ) (i m : ℕ) (t : Results) → slice_get ms i ≡ Some m → AreSeen w c ms i t → ((r : Option JavaType) × (q : Option JavaType) × HasResult w c m r × IsAmong t q × IsUnlike w r q)
      → (m : ℕ) × (k : ℕ) × Contains ms m × Contains ms k × AreUnlike w c m k
  seen_unlike ms i m t at seen h =
      let k = seen.from h.1 h.3 in
      (m, k.0, at_contains ms i m at, at_contains ms k.1.0 k.0 k.1.2, (h.0, h.1, h.2, k.2, h.4))

  -- the results of two methods are unlike, where two of these are
  pub seen_pair : (ms : List ℕ) (i : ℕ) (t : Results) → AreSeen w c ms i t → HasUnlike w t → (m : ℕ) × (k : ℕ) × Contains ms m × Contains ms k × AreUnlike w c m k
  seen_pair ms i t seen h =
      let m = seen.from h.0 h.2 in
      let k = seen.from h.1 h.3 in
      (m.0, k.0, at_contains ms m.1.0 m.0 m.1.2, at_contains ms k.1.0 k.0 k.1.2, (h.0, h.1, m.2, k.2, h.4))

  pub seen_like : (ms : List ℕ) (i : ℕ) (t : Results) → length ms ≤ i → AreSeen w c ms i t → ((m : ℕ) × (k : ℕ) × Contains ms m × Contains ms k × AreUnlike w c m k) → HasUnlike w t
  seen_like ms i t full seen h =
      let unlike = h.4 in
      (unlike.0, unlike.1, seen.all h.0 unlike.0 (among_all ms i h.0 full h.2) unlike.2, seen.all h.1 unlike.1 (among_all ms i h.1 full h.3) unlike.3, unlike.4)

  -- what is told of a method's result
  pub result_added : (m : ℕ) (old new : Results) (r : Option JavaType) (told : Bool) → TellsResult w c m (Some r) → IsAdded w old new r told → (IsTrue told → ⊥)
      → AreKept w new × ((q : Option JavaType) → IsAmong new q ↔ (IsAmong old q ⊎ HasResult w c m q))
  result_added m old new r told is added none =
      let both = added.1 none in (
        both.0,
        λ q. (
          λ h. elim ((both.1 q).0 h) [ inl was ↦ inl was | inr same ↦ inr (subst (HasResult w c m) (sym same) is.0) ],
          λ h. elim h [ inl was ↦ (both.1 q).1 (inl was) | inr has ↦ (both.1 q).1 (inr (is.1 q has)) ],
        ),
      )

  pub result_told : {E : Type 0} (m : ℕ) (old new : Results) (r : Option JavaType) (told : Result Bool E) → TellsResult w c m (Some r) → IfOk told (IsAdded w old new r)
      → IfOk told (λ u. (IsTrue u → ⊥) → AreKept w new × ((q : Option JavaType) → IsAmong new q ↔ (IsAmong old q ⊎ HasResult w c m q)))
  result_told m old new r (Ok u) is added = result_added m old new r u is added
  result_told m old new r (Err e) is added = tt

  -- ---- unlike results of which none overrides both

  unlike_swap : (m k : ℕ) → AreUnlike w c m k → AreUnlike w c k m
  unlike_swap m k u = (u.1, u.0, u.3, u.2, (u.4.1, u.4.0))

  overridden_swap : (Top : ℕ → Type 0) (m k : ℕ) → AreOverriddenBy w Top m k → AreOverriddenBy w Top k m
  overridden_swap Top m k o = (o.0, o.1, o.3, o.2)

  unresolved_swap : (Top : ℕ → Type 0) (m k : ℕ) → AreUnresolved w c Top m k → AreUnresolved w c Top k m
  unresolved_swap Top m k u = (unlike_swap m k u.0, λ o. u.1 (overridden_swap Top k m o))

  -- where the same ones may override
  pub unresolved_alike : (Top Other : ℕ → Type 0) (ms : List ℕ) → ((t : ℕ) → Top t ↔ Other t) → HasUnresolved w c Top ms ↔ HasUnresolved w c Other ms
  unresolved_alike Top Other ms same = (
    λ h. (h.0, h.1, h.2, h.3, (h.4.0, λ o. h.4.1 (o.0, (same o.0).1 o.1, o.2, o.3))),
    λ h. (h.0, h.1, h.2, h.3, (h.4.0, λ o. h.4.1 (o.0, (same o.0).0 o.1, o.2, o.3))),
  )

  -- each pair has one that the first does not override
  pub all_beside : (tops ms : List ℕ) (first i : ℕ) → Contains tops first → AreClear (λ m. (Overriding w first m → ⊥) × IsUnresolvedWith w c (Contains tops) ms m) ms i → length ms ≤ i
      → HasUnresolved w c (Contains tops) ms → ⊥
  all_beside tops ms first i has clear full h =
      let P = λ (m : ℕ). (Overriding w first m → ⊥) × IsUnresolvedWith w c (Contains tops) ms m in
      all_clear P ms i clear full h.0 h.2 (
        λ over. all_clear P ms i clear full h.1 h.3 (λ other. h.4.1 (first, has, over, other), (h.0, h.2, unresolved_swap (Contains tops) h.0 h.1 h.4)),
        (h.1, h.3, h.4),
      )

  -- ---- those of one signature

  module _ (sound : IsSound w) (typed : HaveTypes w) (known : IsKnown w c) (ms : List ℕ) (m : ℕ) (t : NumberedMethods) (xs : List ℕ) (members : HasMembers w c ms t)
      (told : (d : ℕ) (ms : List ℕ) → IsNumbered w d ms t → AreAlike w d m ms xs) where
    alike : (k : ℕ) → Contains xs k ↔ (Contains ms k × HaveOneSignatureIn w c m k)
    alike = (told c ms members.0).0

    -- what overrides one of these is one of these
    over_alike : (x k : ℕ) → Contains xs x → Contains ms k → Overriding w k x → Contains xs k
    over_alike x k has there over =
        let a = (alike x).0 has in
        let one = overriding_alike w sound typed c k x known (members.1 k there) (members.1 x a.0) over in
        (alike k).1 (there, signature_through w sound c x m k (signature_swap w c m x a.1) one)

    pub alike_unresolved : HasUnresolved w c (IsTop w xs) xs → HasUnresolvedPair w c ms
    alike_unresolved h =
        let a = (alike h.0).0 h.2 in
        let b = (alike h.1).0 h.3 in
        (h.0, h.1, a.0, b.0, signature_through w sound c m h.0 h.1 a.1 b.1, (h.4.0, λ o. h.4.1 (o.0, (over_alike h.0 o.0 h.2 o.1.0 o.2, o.1.1), o.2, o.3)))

    among_these : (x k : ℕ) → AreUnresolved w c (IsTop w ms) x k → AreUnresolved w c (IsTop w xs) x k
    among_these x k u = (u.0, λ o. u.1 (o.0, (((alike o.0).0 o.1.0).0, o.1.1), o.2, o.3))

    like_judged : (HasUnresolved w c (IsTop w xs) xs → ⊥) → (x : ℕ) → Contains xs x → IsJudged w c ms x
    like_judged none x has k there one unresolved =
        let a = (alike x).0 has in
        none (x, k, has, (alike k).1 (there, signature_through w sound c x m k (signature_swap w c m x a.1) one), among_these x k unresolved)

    pub all_judged : (old new : ℕ → Bool) → (HasUnresolved w c (IsTop w xs) xs → ⊥) → ((x : ℕ) → (new x ≡ true) ↔ ((old x ≡ true) ⊎ Contains xs x)) → Contains ms m → AreJudged w c ms old
        → IsJudged w c ms m × AreJudged w c ms new
    all_judged old new none both there judged = (
      λ k has one unresolved. none (m, k, (alike m).1 (there, signature_through w sound c k m m (signature_swap w c m k one) (signature_swap w c m k one)), (alike k).1 (has, one), among_these m k unresolved),
      λ x h. elim ((both x).0 h) [ inl was ↦ judged x was | inr has ↦ like_judged none x has ],
    )

  -- ---- all methods

  pub judged_next : (ms : List ℕ) (i m : ℕ) → ((x : ℕ) → Among ms i x → IsJudged w c ms x) → slice_get ms i ≡ Some m → IsJudged w c ms m → (x : ℕ) → Among ms (i + 1) x → IsJudged w c ms x
  judged_next ms i m judged at is x among = elim (among_next ms i x m at among) [ inl before ↦ judged x before | inr same ↦ subst (IsJudged w c ms) (sym same) is ]

  pub no_pair : (ms : List ℕ) (i : ℕ) → length ms ≤ i → ((x : ℕ) → Among ms i x → IsJudged w c ms x) → HasUnresolvedPair w c ms → ⊥
  no_pair ms i full judged h = judged h.0 (among_all ms i h.0 full h.2) h.1 h.3 h.4 h.5

  pub pair_of : (ms : List ℕ) → ((k : ℕ) → Contains ms k ↔ IsInherited w c k) → HasUnresolvedPair w c ms ↔ HasUnlikeResults w c
  pair_of ms has = (
    λ h.
        let unlike = h.5.0 in
        (h.0, h.1, (has h.0).0 h.2, (has h.1).0 h.3, h.4, (λ o. h.5.1 (o.0, ((has o.0).1 o.1, o.2), o.3, o.4)), unlike.0, unlike.1, unlike.2, unlike.3, unlike.4.0, unlike.4.1),
    λ h. (h.0, h.1, (has h.0).1 h.2, (has h.1).1 h.3, h.4, ((h.6, h.7, h.8, h.9, (h.10, h.11)), λ o. h.5 (o.0, (has o.0).0 o.1.0, o.1.1, o.2, o.3))),
  )

  -- where no two methods have one signature
  pub none_unlike : IsSound w → ((m k : ℕ) → IsInherited w c m → IsInherited w c k → HaveOneSignatureIn w c m k → m ≡ k) → HasUnlikeResults w c → ⊥
  none_unlike sound single h =
      let same = single h.0 h.1 h.2 h.3 h.4 in
      let one = one_result w sound c h.0 h.6 h.7 h.8 (subst (λ k. HasResult w c k h.7) (sym same) h.9) in
      h.10 (subst (FitsResult w h.6) one (fits_itself w h.6))

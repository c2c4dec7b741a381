-- What counts in a type, from what its superclass counts; and in all types.
use Rattle.std.proofs.Common.{◌≡◌, ℕ, ◌+◌, ◌<◌, ◌≤◌, zero, suc, List, [], ◌∷◌, Option, Some, None, ◌⊎◌, inl, inr, ◌↔◌, refl, sym, ap, ◌∙◌, subst, length, arith}
use Rattle.std.specs.Prelude.{slice_get}
use Rattle.std.specs.List.{Contains}
use Rattle.std.proofs.lemmas.Option.{slice_get_within}
use Rattle.java_tree.specs.declared.tree.Name.{Name}
use Rattle.class_world.specs.declared.world.World.{World}
use Rattle.class_world.specs.Sound.{IsSound}
use Rattle.class_world.specs.Inheritance.{IsMemberMethod, IsMethodNamed}
use Rattle.class_world.specs.Overriding.{IsSuperclass}
use Rattle.class_world.specs.Counted.{AreAllCounted, Counts, HasCounted, without_superclass, with_superclass}
use Rattle.class_world.specs.Sequences.{IsSequence}
use Rattle.class_world.proofs.Substs.{there_is}
use Rattle.member_methods.specs.declared.MethodLists.{MethodLists}
use Rattle.member_methods.specs.Methods.{AreMembers, AreNamed, HoldsMethods, methods_in}
use Rattle.member_methods.proofs.Firsts.{Among, among_cases, among_all, at_contains, contains_at, low_or_last}
use Rattle.counted_methods.specs.declared.CountedMethods.{CountedMethods}
use Rattle.counted_methods.specs.Table.{AreKept, HoldsCounted, IsCounted, kept_at}
use Rattle.counted_methods.specs.Made.{IsAbove, IsAdded, IsDone, IsLowest, IsOrderly, TellsSuperclass}
use Rattle.counted_methods.proofs.Firsts.{contains_or_not, first_lowest}
use Rattle.counted_methods.proofs.Preferring.{preferred_alike}
use Rattle.counted_methods.proofs.Keeping.{member_is_method}

-- what is kept says the same of what is the same
pub kept_alike : (w : World) (c : ℕ) (n : Name) (arity : ℕ) (P Q : ℕ → Type 0) (o : Option (List ℕ)) → ((m : ℕ) → P m ↔ Q m) → AreKept w c n arity P o → AreKept w c n arity Q o
kept_alike w c n arity P Q None alike kept = λ m is. (alike m).0 (kept m is)
kept_alike w c n arity P Q (Some ms) alike kept = (
  λ m. (λ h. let is = (kept.0 m).0 h in ((alike m).0 is.0, is.1), λ h. (kept.0 m).1 ((alike m).1 h.0, h.1)),
  kept.1,
)

-- ---- the lists of a type that count, from that of its superclass

counts_alike : (w : World) (c : ℕ) (xs ys : List ℕ) → ((m : ℕ) → Contains xs m ↔ Contains ys m) → (m : ℕ) → Counts w c xs m → Counts w c ys m
counts_alike w c xs ys alike m h = (h.0, λ k member one less. h.1 k member one (preferred_alike w ys xs k m (let a = alike k in (a.1, a.0)) (let a = alike m in (a.1, a.0)) less))

-- what is counted above c
pub record Base (w : World) (c : ℕ) (t : CountedMethods) (above : Option ℕ) : Type 0 where
  pub counted : List ℕ
  pub told : IsAbove w t above counted
  pub make : (ms : List ℕ) → AreAllCounted w c counted ms → HasCounted w c ms
  pub only : (ms : List ℕ) → HasCounted w c ms → AreAllCounted w c counted ms

counted_member : (w : World) (s : ℕ) (ms : List ℕ) → HasCounted w s ms → (m : ℕ) → Contains ms m → IsMemberMethod w s m
counted_member w s ms (without_superclass none all) m h = ((all m).0 h).0
counted_member w s ms (with_superclass up has all) m h = ((all m).0 h).0

pub base_of : (w : World) (c : ℕ) (t : CountedMethods) (above : Option ℕ) → TellsSuperclass w c above → ((s : ℕ) → IsSuperclass w c s → IsDone w t s) → Base w c t above
base_of w c t None none done = record {
  counted = [];
  told = refl;
  make = λ ms all. without_superclass none all;
  only = only;
}
  where
    only : (ms : List ℕ) → HasCounted w c ms → AreAllCounted w c [] ms
    only ms (without_superclass alone all) = all
    only ms (with_superclass {s = s} up has all) = absurd (none s up)
base_of w c t (Some s) is done = record {
  counted = below.counted;
  told = (counted_member w s below.counted below.has, below.told);
  make = λ ms all. with_superclass is.0 below.has all;
  only = only;
}
  where
    below : IsDone w t s
    below = done s is.0

    only : (ms : List ℕ) → HasCounted w c ms → AreAllCounted w c below.counted ms
    only ms (without_superclass alone all) = absurd (alone s is.0)
    only ms (with_superclass {s = r} {counted = xs} up has all) =
        let same : r ≡ s = is.1 r up in
        let alike = below.only xs (subst (λ s. HasCounted w s xs) same has) in
        λ m. (
          λ h. counts_alike w c xs below.counted alike m ((all m).0 h),
          λ h. (all m).1 (counts_alike w c below.counted xs (λ k. let a = alike k in (a.1, a.0)) m h),
        )

-- ---- the members of a type, one after another

pub record IsAdding (w : World) (c : ℕ) (counted vs : List ℕ) (i : ℕ) (old t : CountedMethods) : Type 0 where
  pub orderly : IsOrderly t
  pub others : (d : ℕ) (n : Name) (arity : ℕ) → (d ≡ c → ⊥) → kept_at t d n arity ≡ kept_at old d n arity
  pub right : (n : Name) (arity : ℕ) (xs : List ℕ) → kept_at t c n arity ≡ Some xs → AreKept w c n arity (Counts w c counted) (Some xs)
  pub told : (n : Name) (arity m : ℕ) → Among vs i m → IsLowest w c n arity m → AreKept w c n arity (Counts w c counted) (kept_at t c n arity)

resolved : (w : World) (c : ℕ) (n : Name) (arity : ℕ) (P : ℕ → Type 0) (o : Option (List ℕ)) → AreKept w c n arity P o ⊎ AreKept w c n arity P None → ((xs : List ℕ) → o ≡ Some xs → AreKept w c n arity P (Some xs))
    → AreKept w c n arity P o
resolved w c n arity P None either right = elim either [ inl h ↦ h | inr h ↦ h ]
resolved w c n arity P (Some xs) either right = right xs refl

pub next_added : (w : World) (c : ℕ) (counted vs : List ℕ) (i m : ℕ) (old t new : CountedMethods) → slice_get vs i ≡ Some m → IsAdding w c counted vs i old t → IsAdded w c m counted t new → IsAdding w c counted vs (i + 1) old new
next_added w c counted vs i m old t new at before added = record {
  orderly = added.orderly;
  others = λ d n arity other. added.others d n arity other ∙ before.others d n arity other;
  right = right;
  told = λ n arity k among low. elim (among_cases vs i k m at among) [
    | inl was ↦ elim (added.each n arity) [
      | inl same ↦ subst (AreKept w c n arity (Counts w c counted)) (sym same) (before.told n arity k was low)
      | inr here ↦ here
    ]
    | inr same ↦ resolved w c n arity (Counts w c counted) (kept_at new c n arity) (added.told n arity (subst (IsLowest w c n arity) same low)) (right n arity)
  ];
}
  where
    right : (n : Name) (arity : ℕ) (xs : List ℕ) → kept_at new c n arity ≡ Some xs → AreKept w c n arity (Counts w c counted) (Some xs)
    right n arity xs e = elim (added.each n arity) [
      | inl same ↦ before.right n arity xs (sym same ∙ e)
      | inr here ↦ subst (AreKept w c n arity (Counts w c counted)) e here
    ]

-- what the superclass counts stays
pub above_stays : (w : World) → IsSound w → (c : ℕ) (counted vs : List ℕ) (i : ℕ) (old t : CountedMethods) (above : Option ℕ) → TellsSuperclass w c above → IsAdding w c counted vs i old t → IsAbove w old above counted
    → IsAbove w t above counted
above_stays w sound c counted vs i old t None tells adding is = is
above_stays w sound c counted vs i old t (Some s) tells adding is = (
  is.0,
  λ n arity. subst (AreKept w s n arity (Contains counted)) (sym (adding.others s n arity other)) (is.1 n arity),
)
  where
    other : s ≡ c → ⊥
    other same =
        let direct = tells.0.1 in
        let less = sound.falls c s direct.0 direct.1 in
        let level : sound.rank s ≡ sound.rank c = ap sound.rank same in
        omega (arith, less, level)

-- ---- all of them

behind : (x : ℕ) (xs : List ℕ) (m : ℕ) → Contains xs m → Contains (x ∷ xs) m
behind x xs m h = let at = contains_at xs m h in at_contains (x ∷ xs) (suc at.0) m at.1

first_or_rest : (x : ℕ) (xs : List ℕ) (m : ℕ) → Contains (x ∷ xs) m → (x ≡ m) ⊎ Contains xs m
first_or_rest x xs m h = let at = contains_at (x ∷ xs) m h in go at.0 at.1
  where
    go : (k : ℕ) → slice_get (x ∷ xs) k ≡ Some m → (x ≡ m) ⊎ Contains xs m
    go zero e = inl (cc e)
    go (suc k) e = inr (at_contains xs k m e)

-- one more
abbrev Gathered : (ℕ → Type 0) → List ℕ → List ℕ → Type 0
Gathered P vs ms = (m : ℕ) → Contains ms m ↔ (Contains vs m × P m)

gather_one : (P : ℕ → Type 0) (v : ℕ) (vs ms : List ℕ) → P v → Gathered P vs ms → Gathered P (v ∷ vs) (v ∷ ms)
gather_one P v vs ms holds rest m = (
  λ h. elim (first_or_rest v ms m h) [
    | inl same ↦ (subst (Contains (v ∷ vs)) same (at_contains (v ∷ vs) 0 v refl), subst P same holds)
    | inr later ↦ let is = (rest m).0 later in (behind v vs m is.0, is.1)
  ],
  λ h. elim (first_or_rest v vs m h.0) [
    | inl same ↦ subst (Contains (v ∷ ms)) same (at_contains (v ∷ ms) 0 v refl)
    | inr later ↦ behind v ms m ((rest m).1 (later, h.1))
  ],
)

gather_less : (P : ℕ → Type 0) (v : ℕ) (vs ms : List ℕ) → (P v → ⊥) → Gathered P vs ms → Gathered P (v ∷ vs) ms
gather_less P v vs ms not rest m = (
  λ h. let is = (rest m).0 h in (behind v vs m is.0, is.1),
  λ h. elim (first_or_rest v vs m h.0) [
    | inl same ↦ absurd (not (subst P (sym same) h.1))
    | inr later ↦ (rest m).1 (later, h.1)
  ],
)

gather : (P : ℕ → Type 0) (vs : List ℕ) → ((m : ℕ) → Contains vs m → P m ⊎ (P m → ⊥)) → (ms : List ℕ) × Gathered P vs ms
gather P [] decide = ([], λ m. (λ h. let lt = h.1 in absurd (omega (arith, lt)), λ h. h.0))
gather P (v ∷ vs) decide =
    let rest = gather P vs (λ m h. decide m (behind v vs m h)) in
    elim (decide v (at_contains (v ∷ vs) 0 v refl)) [
      | inl holds ↦ (v ∷ rest.0, gather_one P v vs rest.0 holds rest.1)
      | inr not ↦ (rest.0, gather_less P v vs rest.0 not rest.1)
    ]

module _ (w : World) (c : ℕ) (t old : CountedMethods) (lists : MethodLists) (vs : List ℕ) (i : ℕ) (above : Option ℕ) (base : Base w c old above) (holds : HoldsMethods w lists) (are : AreMembers w c vs)
    (full : length vs ≤ i) (adding : IsAdding w c base.counted vs i old t) where
  all_kept : (n : Name) (arity : ℕ) → AreKept w c n arity (Counts w c base.counted) (kept_at t c n arity)
  all_kept n arity = go (slice_get (methods_in lists c n arity) 0) refl
    where
      are_named : AreNamed w c n arity (methods_in lists c n arity)
      are_named = holds.named c n arity

      empty : (o : Option (List ℕ)) → kept_at t c n arity ≡ o → ((m : ℕ) → IsMethodNamed w c n arity m → ⊥) → AreKept w c n arity (Counts w c base.counted) o
      empty None e none = λ m is. absurd (none m is)
      empty (Some xs) e none = adding.right n arity xs e

      go : (o : Option ℕ) → slice_get (methods_in lists c n arity) 0 ≡ o → AreKept w c n arity (Counts w c base.counted) (kept_at t c n arity)
      go None e = empty (kept_at t c n arity) refl (λ m is.
          let there = contains_at (methods_in lists c n arity) m ((are_named.0 m).1 is) in
          let lt = slice_get_within (methods_in lists c n arity) there.0 m there.1 in
          let x = there_is (methods_in lists c n arity) 0 (omega (arith, lt)) in
          let never : None ≡ Some x.0 = sym e ∙ x.1 in
          absurd (cc never))
      go (Some f) e =
          let is = (are_named.0 f).0 (at_contains (methods_in lists c n arity) 0 f e) in
          adding.told n arity f (among_all vs i f full ((are f).1 is.0)) (is, λ k is_k. first_lowest (methods_in lists c n arity) f k are_named.1 e ((are_named.0 k).1 is_k))

  decided : (m : ℕ) → Contains vs m → Counts w c base.counted m ⊎ (Counts w c base.counted m → ⊥)
  decided m h =
      let member = (are m).0 h in
      let info = member_is_method w c m member in
      let named : IsMethodNamed w c info.0.name (length info.0.params) m = (member, (info.0, info.1, refl, refl)) in
      go info.0.name (length info.0.params) named (kept_at t c info.0.name (length info.0.params)) (all_kept info.0.name (length info.0.params))
    where
      go : (n : Name) (arity : ℕ) → IsMethodNamed w c n arity m → (o : Option (List ℕ)) → AreKept w c n arity (Counts w c base.counted) o → Counts w c base.counted m ⊎ (Counts w c base.counted m → ⊥)
      go n arity named None kept = inl (kept m named)
      go n arity named (Some xs) kept = elim (contains_or_not xs m) [
        | inl here ↦ inl ((kept.0 m).0 here).0
        | inr not ↦ inr (λ counts. not ((kept.0 m).1 (counts, named)))
      ]

  pub type_done : IsDone w t c
  type_done =
      let ms = gather (Counts w c base.counted) vs decided in
      let all : AreAllCounted w c base.counted ms.0 = λ m. (λ h. ((ms.1 m).0 h).1, λ h. (ms.1 m).1 ((are m).1 h.0, h)) in
      record {
        counted = ms.0;
        has = base.make ms.0 all;
        only = λ xs has m. (
          λ h. (all m).1 ((base.only xs has m).0 h),
          λ h. (base.only xs has m).1 ((all m).0 h),
        );
        told = λ n arity. kept_alike w c n arity (Counts w c base.counted) (Contains ms.0) (kept_at t c n arity) (λ m. ((all m).1, (all m).0)) (all_kept n arity);
      }

-- ---- all types

pub record IsBuilding (w : World) (types : List ℕ) (i : ℕ) (t : CountedMethods) : Type 0 where
  pub orderly : IsOrderly t
  pub done : (j c : ℕ) → j < i → slice_get types j ≡ Some c → IsDone w t c
  pub new : (c : ℕ) → ((j : ℕ) → j < i → slice_get types j ≡ Some c → ⊥) → (n : Name) (arity : ℕ) → kept_at t c n arity ≡ None

done_stays : (w : World) (old new : CountedMethods) (c : ℕ) → ((n : Name) (arity : ℕ) → kept_at new c n arity ≡ kept_at old c n arity) → IsDone w old c → IsDone w new c
done_stays w old new c same done = record {
  counted = done.counted;
  has = done.has;
  only = done.only;
  told = λ n arity. subst (AreKept w c n arity (Contains done.counted)) (sym (same n arity)) (done.told n arity);
}

module _ (w : World) (types : List ℕ) (i c : ℕ) (t : CountedMethods) (seq : IsSequence w types) (at : slice_get types i ≡ Some c) (building : IsBuilding w types i t) where
  pub next_new : (n : Name) (arity : ℕ) → kept_at t c n arity ≡ None
  next_new = building.new c (λ j lt at_j. let same = seq.once j i c at_j at in omega (arith, lt, same))

  pub next_above : (s : ℕ) → IsSuperclass w c s → IsDone w t s
  next_above s up = let b = seq.before i c s up.1.0 at up.1.1 in building.done b.0 s b.1 b.2

  pub next_built : (new : CountedMethods) → IsOrderly new → IsDone w new c → ((d : ℕ) (n : Name) (arity : ℕ) → (d ≡ c → ⊥) → kept_at new d n arity ≡ kept_at t d n arity) → IsBuilding w types (i + 1) new
  next_built new orderly done others = record {
    orderly = orderly;
    done = λ j d lt at_j. elim (low_or_last j i lt) [
      | inl low ↦
          let other : d ≡ c → ⊥ = λ same. let place = seq.once j i c (at_j ∙ ap Some same) at in omega (arith, low, place) in
          done_stays w t new d (λ n arity. others d n arity other) (building.done j d low at_j)
      | inr last ↦
          let same : c ≡ d = let both : Some c ≡ Some d = sym at ∙ ap (slice_get types) (sym last) ∙ at_j in cc both in
          subst (IsDone w new) same done
    ];
    new = λ d none n arity.
        let other : d ≡ c → ⊥ = λ same. none i (omega arith) (at ∙ ap Some (sym same)) in
        others d n arity other ∙ building.new d (λ j lt at_j. none j (omega (arith, lt)) at_j) n arity;
  }

pub all_built : (w : World) (types : List ℕ) (i : ℕ) (t : CountedMethods) → IsSequence w types → length types ≤ i → IsBuilding w types i t → HoldsCounted w t
all_built w types i t seq full building c known n arity =
    let place = seq.all c (slice_get_within w.types c known.0 known.1) in
    let lt = slice_get_within types place.0 c place.1 in
    let done = building.done place.0 c (omega (arith, lt, full)) place.1 in
    kept_alike w c n arity (Contains done.counted) (IsCounted w c) (kept_at t c n arity) (λ m. (
      λ h. (done.counted, done.has, h),
      λ h. (done.only h.0 h.1 m).0 h.2,
    )) (done.told n arity)

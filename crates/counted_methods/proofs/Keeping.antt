-- Lists that are kept for places, and what they say.
use Rattle.std.proofs.Common.{◌≡◌, ℕ, ◌<◌, ◌≤◌, Bool, true, false, cond, nat_eq, List, [], Option, Some, None, ◌⊎◌, inl, inr, ◌↔◌, refl, sym, ap, ◌∙◌, subst, length, arith}
use Rattle.std.specs.Prelude.{slice_get, ◌&&◌}
use Rattle.std.specs.Option.{option_and_then}
use Rattle.std.specs.List.{Contains}
use Rattle.std.specs.List.Sorted.{IsStrictlyIncreasing}
use Rattle.std.specs.HashMap.{get}
use Rattle.std.proofs.lemmas.Bool.{and_parts, eqb-true, cases_lt}
use Rattle.std.proofs.lemmas.Option.{slice_get_within}
use Rattle.java_tree.specs.declared.tree.Name.{Name}
use Rattle.class_world.specs.declared.world.World.{World}
use Rattle.class_world.specs.declared.world.MethodInfo.{MethodInfo}
use Rattle.class_world.specs.Types.{substitute}
use Rattle.class_world.specs.Signatures.{IsMethod, HaveOneSignatureIn}
use Rattle.class_world.specs.Inheritance.{IsMemberMethod, declared, inherited, IsMethodNamed}
use Rattle.class_world.specs.Counted.{Counts, IsPreferred}
use Rattle.class_world.proofs.Substs.{length_map, there_is}
use Rattle.member_methods.specs.Methods.{AreNamed}
use Rattle.member_methods.proofs.Firsts.{at_contains, contains_at}
use Rattle.counted_methods.specs.declared.Place.{Place}
use Rattle.counted_methods.specs.declared.CountedMethods.{CountedMethods}
use Rattle.counted_methods.specs.Table.{AreCountedNamed, AreKept, IsCounted, kept_at, place, same_place}
use Rattle.counted_methods.specs.Chosen.{AreChosen}
use Rattle.counted_methods.specs.Made.{AreListed, Grows, IsAbove, IsAdded, IsFirstOfMore, IsLowest, IsOrderly, IsPut}
use Rattle.counted_methods.proofs.Firsts.{first_lowest}
use Rattle.counted_methods.proofs.Preferring.{not_itself, preferred_alike}

-- ---- places

place_is : (k q : Place) → same_place k q ≡ true → (k.owner ≡ q.owner) × (k.name ≡ q.name) × (k.arity ≡ q.arity)
place_is k q e =
    let first = and_parts (nat_eq k.owner q.owner) (nat_eq k.name q.name && nat_eq k.arity q.arity) e in
    let second = and_parts (nat_eq k.name q.name) (nat_eq k.arity q.arity) first.1 in
    (eqb-true k.owner q.owner first.0, eqb-true k.name q.name second.0, eqb-true k.arity q.arity second.1)

abbrev named : ℕ → Name
named x = record { 0 = x }

module _ (c : ℕ) (n : Name) (arity number : ℕ) (xs : List ℕ) (old new : CountedMethods) (orderly : IsOrderly old) (rises : IsStrictlyIncreasing xs) (grows : Grows old.lists new.lists) (there : slice_get new.lists number ≡ Some xs)
    (puts : (q : Place) → get same_place new.places q ≡ cond (same_place (place c n arity) q) (Some number) (get same_place old.places q)) where
  puts_here : (q : Place) → same_place (place c n arity) q ≡ true → get same_place new.places q ≡ Some number
  puts_here q e = puts q ∙ ap (λ b. cond b (Some number) (get same_place old.places q)) e

  puts_other : (q : Place) → same_place (place c n arity) q ≡ false → get same_place new.places q ≡ get same_place old.places q
  puts_other q e = puts q ∙ ap (λ b. cond b (Some number) (get same_place old.places q)) e

  within_new : (q : Place) (b : Bool) → same_place (place c n arity) q ≡ b → (k : ℕ) → get same_place new.places q ≡ Some k → k < length new.lists
  within_new q true e k is =
      let both : Some number ≡ Some k = sym (puts_here q e) ∙ is in
      let same : number ≡ k = cc both in
      let lt = slice_get_within new.lists number xs there in
      omega (arith, same, lt)
  within_new q false e k is = let lt = orderly.within q k (sym (puts_other q e) ∙ is) in let size = grows.size in omega (arith, lt, size)

  kept_same : (q : Place) → get same_place new.places q ≡ get same_place old.places q
      → option_and_then (slice_get new.lists) (get same_place new.places q) ≡ option_and_then (slice_get old.lists) (get same_place old.places q)
  kept_same q e = ap (option_and_then (slice_get new.lists)) e ∙ go (get same_place old.places q) refl
    where
      go : (o : Option ℕ) → get same_place old.places q ≡ o → option_and_then (slice_get new.lists) (get same_place old.places q) ≡ option_and_then (slice_get old.lists) (get same_place old.places q)
      go None is = ap (option_and_then (slice_get new.lists)) is ∙ ap (option_and_then (slice_get old.lists)) (sym is)
      go (Some k) is =
          let x = there_is old.lists k (orderly.within q k is) in
          ap (option_and_then (slice_get new.lists)) is ∙ grows.kept k x.0 x.1 ∙ sym x.1 ∙ ap (option_and_then (slice_get old.lists)) (sym is)

  other_place : (d : ℕ) (k : Name) (count : ℕ) (b : Bool) → same_place (place c n arity) (place d k count) ≡ b
      → ((d ≡ c) × (k ≡ n) × (count ≡ arity)) ⊎ (kept_at new d k count ≡ kept_at old d k count)
  other_place d k count true e = let is = place_is (place c n arity) (place d k count) e in inl (sym is.0, ap named (sym is.1), sym is.2)
  other_place d k count false e = inr (kept_same (place d k count) (puts_other (place d k count) e))

  pub put_told : get same_place new.places (place c n arity) ≡ Some number → IsPut c n arity xs old new
  put_told here = record {
    orderly = record {
      within = λ q k is. within_new q (same_place (place c n arity) q) refl k is;
      ascending = λ d k count ys e. elim (others d k count) [
        | inl same ↦
            let at : kept_at new d k count ≡ kept_at new c n arity =
            ap (λ d. kept_at new d k count) same.0 ∙ ap (λ k. kept_at new c k count) same.1 ∙ ap (kept_at new c n) same.2 in
            let both : Some xs ≡ Some ys = sym own ∙ sym at ∙ e in
            let is : xs ≡ ys = cc both in
            subst IsStrictlyIncreasing is rises
        | inr stays ↦ orderly.ascending d k count ys (sym stays ∙ e)
      ];
    };
    here = own;
    others = others;
  }
    where
      own : kept_at new c n arity ≡ Some xs
      own = ap (option_and_then (slice_get new.lists)) here ∙ there

      others : (d : ℕ) (k : Name) (count : ℕ) → ((d ≡ c) × (k ≡ n) × (count ≡ arity)) ⊎ (kept_at new d k count ≡ kept_at old d k count)
      others d k count = other_place d k count (same_place (place c n arity) (place d k count)) refl

-- ---- what is asked

pub get_told : (w : World) (c : ℕ) (n : Name) (arity : ℕ) (o : Option (List ℕ)) (xs : List ℕ) → AreListed w c n arity o xs → AreKept w c n arity (IsCounted w c) o → AreCountedNamed w c n arity xs
get_told w c n arity None xs are all = (λ m. (λ h. let is = (are.0 m).0 h in (all m is, is), λ h. (are.0 m).1 h.1), are.1)
get_told w c n arity (Some ms) xs are kept = subst (AreCountedNamed w c n arity) (sym are) kept

-- ---- what counts

module _ (w : World) where
  pub one_method : (m : ℕ) (i j : MethodInfo) → IsMethod w m i → IsMethod w m j → i ≡ j
  one_method m i j a b = cc (a.0, b.0)

  pub member_is_method : (c m : ℕ) → IsMemberMethod w c m → (info : MethodInfo) × IsMethod w m info
  member_is_method c m (declared d) = (d.0, d.1)
  member_is_method c m (inherited {s = s} up member not_private not_own) = member_is_method s m member

  -- methods of one signature have one name and number of parameters
  one_shape : (c m k : ℕ) (i j : MethodInfo) → HaveOneSignatureIn w c m k → IsMethod w m i → IsMethod w k j → (i.name ≡ j.name) × (length i.params ≡ length j.params)
  one_shape c m k i j h mi kj =
      let name = h.0 in
      let first : name.0 ≡ i = one_method m name.0 i name.2 mi in
      let second : name.1 ≡ j = one_method k name.1 j name.3 kj in
      let a = h.1.1 in
      let b = h.1.2 in
      let ai : a.0 ≡ i = one_method m a.0 i a.1 mi in
      let bj : b.0 ≡ j = one_method k b.0 j b.1 kj in (
        ap (λ (x : MethodInfo). x.name) (sym first) ∙ name.4 ∙ ap (λ (x : MethodInfo). x.name) second,
        ap (λ (x : MethodInfo). length x.params) (sym ai) ∙ sym (length_map (substitute a.2) a.0.params) ∙ ap length (sym a.4 ∙ b.4) ∙ length_map (substitute b.2) b.0.params
            ∙ ap (λ (x : MethodInfo). length x.params) bj,
      )

  -- a member of the signature of one of this name and number of parameters has them too
  named_too : (c : ℕ) (n : Name) (arity k m : ℕ) → IsMethodNamed w c n arity m → IsMemberMethod w c k → HaveOneSignatureIn w c k m → IsMethodNamed w c n arity k
  named_too c n arity k m is member one =
      let info = member_is_method c k member in
      let shape = one_shape c k m info.0 is.1.0 one info.1 is.1.1 in
      (member, (info.0, info.1, shape.0 ∙ is.1.2, shape.1 ∙ is.1.3))

  -- of the methods of this name and number of parameters the list has those that the superclass counts
  pub listed_counts : (c s : ℕ) (n : Name) (arity : ℕ) (o : Option (List ℕ)) (above counted : List ℕ) → AreListed w s n arity o above → AreKept w s n arity (Contains counted) o
      → ((m : ℕ) → Contains counted m → IsMemberMethod w s m) → (k : ℕ) → IsMethodNamed w c n arity k → Contains above k ↔ Contains counted k
  listed_counts c s n arity None above counted are kept members k is = (λ h. kept k ((are.0 k).0 h), λ h. (are.0 k).1 (members k h, is.1))
  listed_counts c s n arity (Some ms) above counted are kept members k is = (
    λ h. ((kept.0 k).0 (subst (λ l. Contains l k) are h)).0,
    λ h. subst (λ l. Contains l k) (sym are) ((kept.0 k).1 (h, (members k h, is.1))),
  )

  pub listed_rises : (s : ℕ) (n : Name) (arity : ℕ) (t : CountedMethods) (above : List ℕ) → IsOrderly t → AreListed w s n arity (kept_at t s n arity) above → IsStrictlyIncreasing above
  listed_rises s n arity t above orderly = go (kept_at t s n arity) refl
    where
      go : (o : Option (List ℕ)) → kept_at t s n arity ≡ o → AreListed w s n arity o above → IsStrictlyIncreasing above
      go None e are = are.1
      go (Some ms) e are = subst IsStrictlyIncreasing (sym are) (orderly.ascending s n arity ms e)

  -- what is listed for the superclass, if there is one
  abbrev pub IsFirstList : CountedMethods → Option ℕ → Name → ℕ → List ℕ → Type 0
  IsFirstList t None n arity first = first ≡ []
  IsFirstList t (Some s) n arity first = AreListed w s n arity (kept_at t s n arity) first

  pub first_alike : (c : ℕ) (n : Name) (arity : ℕ) (t : CountedMethods) (above : Option ℕ) (first counted : List ℕ) → IsFirstList t above n arity first → IsAbove w t above counted
      → (k : ℕ) → IsMethodNamed w c n arity k → Contains first k ↔ Contains counted k
  first_alike c n arity t None first counted none empty k is = (λ h. subst (λ l. Contains l k) (none ∙ sym empty) h, λ h. subst (λ l. Contains l k) (empty ∙ sym none) h)
  first_alike c n arity t (Some s) first counted are told k is = listed_counts c s n arity (kept_at t s n arity) first counted are (told.1 n arity) told.0 k is

  module _ (c : ℕ) (n : Name) (arity : ℕ) (above counted here xs : List ℕ) (are : AreNamed w c n arity here) (alike : (k : ℕ) → IsMethodNamed w c n arity k → Contains above k ↔ Contains counted k)
      (chosen : AreChosen w c above here xs) where
    counts_told : (m : ℕ) → Contains xs m → Counts w c counted m × IsMethodNamed w c n arity m
    counts_told m h =
        let mine = (chosen.0 m).0 h in
        let is = (are.0 m).0 mine.0 in (
          (
            is.0,
            λ k member one less.
                let is_k = named_too c n arity k m is member one in
                mine.1 k ((are.0 k).1 is_k) one (preferred_alike w counted above k m (back k is_k) (back m is) less),
          ),
          is,
        )
      where
        back : (k : ℕ) → IsMethodNamed w c n arity k → Contains counted k ↔ Contains above k
        back k is = let both = alike k is in (both.1, both.0)

    counts_back : (m : ℕ) → Counts w c counted m → IsMethodNamed w c n arity m → Contains xs m
    counts_back m counts is = (chosen.0 m).1 (
      (are.0 m).1 is,
      λ k there one less.
          let is_k = (are.0 k).0 there in
          counts.1 k is_k.0 one (preferred_alike w above counted k m (alike k is_k) (alike m is) less),
    )

    pub chosen_kept : AreKept w c n arity (Counts w c counted) (Some xs)
    chosen_kept = (λ m. (λ h. counts_told m h, λ h. counts_back m h.0 h.1), chosen.1)

    pub all_chosen : xs ≡ here → AreKept w c n arity (Counts w c counted) None
    all_chosen e m is = (counts_told m (subst (λ l. Contains l m) (sym e) ((are.0 m).1 is))).0

  -- ---- where nothing is done

  lowest_first : (c : ℕ) (n : Name) (arity m : ℕ) (here : List ℕ) → AreNamed w c n arity here → IsLowest w c n arity m → slice_get here 0 ≡ Some m
  lowest_first c n arity m here are low =
      let there = contains_at here m ((are.0 m).1 low.0) in
      let lt = slice_get_within here there.0 m there.1 in
      let x = there_is here 0 (omega (arith, lt)) in
      let le : x.0 ≤ m = first_lowest here x.0 m are.1 x.1 ((are.0 m).1 low.0) in
      let ge : m ≤ x.0 = low.1 x.0 ((are.0 x.0).0 (at_contains here 0 x.0 x.1)) in
      let same : x.0 ≡ m = omega (arith, le, ge) in
      x.1 ∙ ap Some same

  -- one that is alone with its name and number of parameters counts
  alone_counts : (c : ℕ) (n : Name) (arity m : ℕ) (here counted : List ℕ) → AreNamed w c n arity here → (IsFirstOfMore here m → ⊥) → IsLowest w c n arity m → AreKept w c n arity (Counts w c counted) None
  alone_counts c n arity m here counted are not low = λ k is. (
    is.0,
    λ j member one less.
        let is_j = named_too c n arity j k is member one in
        not_itself w counted k (subst (λ j. IsPreferred w counted j k) (alone j is_j ∙ sym (alone k is)) less),
  )
    where
      alone : (k : ℕ) → IsMethodNamed w c n arity k → k ≡ m
      alone k is =
          let first = lowest_first c n arity m here are low in
          let there = contains_at here k ((are.0 k).1 is) in
          elim (cases_lt 1 (length here)) [
            | inl more ↦ absurd (not (more, first))
            | inr few ↦
                let lt = slice_get_within here there.0 k there.1 in
                let zero_place : there.0 ≡ 0 = omega (arith, lt, few) in
                let both : Some k ≡ Some m = sym there.1 ∙ ap (slice_get here) zero_place ∙ first in
                cc both
          ]

  pub unchanged : (c m : ℕ) (counted : List ℕ) (t : CountedMethods) → IsOrderly t → ((n : Name) (arity : ℕ) → IsLowest w c n arity m → AreKept w c n arity (Counts w c counted) None) → IsAdded w c m counted t t
  unchanged c m counted t orderly told = record {
    orderly = orderly;
    others = λ d n arity other. refl;
    each = λ n arity. inl refl;
    told = λ n arity low. inr (told n arity low);
  }

  -- the key of a method
  key_is : (c m : ℕ) (n : Name) (arity : ℕ) (info : MethodInfo) → IsMethod w m info → IsMethodNamed w c n arity m → (info.name ≡ n) × (length info.params ≡ arity)
  key_is c m n arity info is named =
      let same : named.1.0 ≡ info = one_method m named.1.0 info named.1.1 is in
      (ap (λ (i : MethodInfo). i.name) (sym same) ∙ named.1.2, ap (λ (i : MethodInfo). length i.params) (sym same) ∙ named.1.3)

  module _ (c m : ℕ) (counted : List ℕ) (info : MethodInfo) (is : IsMethod w m info) (t : CountedMethods) (orderly : IsOrderly t) where
    at_key : (P : Name → ℕ → Type 0) → P info.name (length info.params) → (n : Name) (arity : ℕ) → IsMethodNamed w c n arity m → P n arity
    at_key P h n arity named = let key = key_is c m n arity info is named in subst (λ n. P n arity) key.0 (subst (λ a. P info.name a) key.1 h)

    pub not_first : (here : List ℕ) → AreNamed w c info.name (length info.params) here → (IsFirstOfMore here m → ⊥) → IsAdded w c m counted t t
    not_first here are not = unchanged c m counted t orderly (λ n arity low.
        let key = key_is c m n arity info is low.0 in
        alone_counts c n arity m here counted (subst (λ n. AreNamed w c n arity here) key.0 (subst (λ a. AreNamed w c info.name a here) key.1 are)) not low)

    pub all_added : AreKept w c info.name (length info.params) (Counts w c counted) None → IsAdded w c m counted t t
    all_added all = unchanged c m counted t orderly (λ n arity low. at_key (λ n arity. AreKept w c n arity (Counts w c counted) None) all n arity low.0)

    pub put_added : (xs : List ℕ) (new : CountedMethods) → IsPut c info.name (length info.params) xs t new → AreKept w c info.name (length info.params) (Counts w c counted) (Some xs) → IsAdded w c m counted t new
    put_added xs new put kept = record {
      orderly = put.orderly;
      others = λ d n arity other. elim (put.others d n arity) [ inl same ↦ absurd (other same.0) | inr stays ↦ stays ];
      each = λ n arity. elim (put.others c n arity) [
        | inl same ↦ inr (subst (λ n. AreKept w c n arity (Counts w c counted) (kept_at new c n arity)) (sym same.1) (subst (λ a. AreKept w c info.name a (Counts w c counted) (kept_at new c info.name a)) (sym same.2) here))
        | inr stays ↦ inl stays
      ];
      told = λ n arity low. inl (at_key (λ n arity. AreKept w c n arity (Counts w c counted) (kept_at new c n arity)) here n arity low.0);
    }
      where
        here : AreKept w c info.name (length info.params) (Counts w c counted) (kept_at new c info.name (length info.params))
        here = subst (AreKept w c info.name (length info.params) (Counts w c counted)) (sym put.here) kept

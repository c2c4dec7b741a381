-- The maps of one type, from those of the types directly above it.
use Rattle.std.proofs.Common.{◌≡◌, ℕ, zero, suc, ◌<◌, List, [], ◌++◌, Option, Some, ◌⊎◌, inl, inr, ◌↔◌, map, refl, sym, ap, ◌∙◌, subst, length, arith}
use Rattle.std.specs.Prelude.{slice_get, slice_set, replicate}
use Rattle.std.specs.List.{Contains}
use Rattle.std.proofs.lemmas.Bool.{cases_eq}
use Rattle.std.proofs.lemmas.List.{length-set, length-replicate}
use Rattle.std.proofs.lemmas.Option.{slice_get_within}
use Rattle.std.proofs.lemmas.List.Elements.{Contains-append_right, Contains-append_cases}
use Rattle.java_tree.specs.declared.tree.Name.{Name}
use Rattle.class_world.specs.declared.world.World.{World}
use Rattle.class_world.specs.declared.world.TypeInfo.{TypeInfo}
use Rattle.class_world.specs.declared.world.MethodInfo.{MethodInfo}
use Rattle.class_world.specs.declared.world.JavaType.TheVariants as ty
use Rattle.class_world.specs.Sound.{IsSound}
use Rattle.class_world.specs.Types.{substitute}
use Rattle.class_world.specs.Signatures.{IsMethod, HaveOneName, HaveOneSignatureIn}
use Rattle.class_world.specs.Inheritance.{IsDirectlyAbove, DeclaresMethod, IsMemberMethod, declared, inherited, IsPrivateMethod}
use Rattle.class_world.specs.Overriding.{IsSuperinterface}
use Rattle.class_world.proofs.Words.{set_here, set_there}
use Rattle.class_world.proofs.Substs.{length_map, there_is}
use Rattle.shared_maps.specs.declared.Map.{Map}
use Rattle.member_methods.specs.declared.keys.Key.{Key}
use Rattle.member_methods.specs.declared.tables.Tables.{Tables}
use Rattle.member_methods.specs.declared.own.Group.{Group}
use Rattle.member_methods.specs.declared.made.Made.{Made}
use Rattle.member_methods.specs.Keys.{key_of, AreKeys}
use Rattle.member_methods.specs.Tables.{listed, IsGood, Keeps, IsMapOf}
use Rattle.member_methods.specs.Own.{IsInGroup, AreGroups}
use Rattle.member_methods.specs.Made.{IsKeyed, Has, HandsDown, CanInherit, CanInheritFromInterface, HaveMaps, IsListedIn, Lists, IsWithAll, AreApart, HasMap, IsDone, IsMaking, IsReady}
use Rattle.member_methods.proofs.Maps.{keeps_both}

-- ---- keys

module _ (w : World) (find : Key → Option ℕ) (keyed : List ℕ) (keys : AreKeys w find keyed) where
  -- two methods of one key
  pub one_key : (m n q : ℕ) (i j : MethodInfo) → slice_get w.methods m ≡ Some i → slice_get w.methods n ≡ Some j → slice_get keyed m ≡ Some q → slice_get keyed n ≡ Some q → key_of i ≡ key_of j
  one_key m n q i j at_m at_n is_m is_n =
      let k = keys.found m i at_m in
      let l = keys.found n j at_n in
      let same : k.0 ≡ l.0 = let both : Some k.0 ≡ Some l.0 = sym k.2 ∙ is_m ∙ sym is_n ∙ l.2 in cc both in
      let one = keys.only (key_of i) k.0 k.1 in
      let two = keys.only (key_of j) k.0 (l.1 ∙ ap Some (sym same)) in
      let info : one.0 ≡ two.0 = cc (one.1, two.1) in
      sym one.2 ∙ ap key_of info ∙ two.2

  pub one_name : (m n q : ℕ) (i j : MethodInfo) → IsMethod w m i → IsMethod w n j → slice_get keyed m ≡ Some q → slice_get keyed n ≡ Some q → HaveOneName w m n
  one_name m n q i j is_m is_n at_m at_n =
      (i, j, is_m, is_n, ap (λ (k : Key). (λ (x : Name). x) (record { 0 = k.name })) (one_key m n q i j is_m.0 is_n.0 at_m at_n))

  -- two methods of one signature have one key
  pub one_place : (c m n p q : ℕ) → HaveOneSignatureIn w c m n → slice_get keyed m ≡ Some p → slice_get keyed n ≡ Some q → p ≡ q
  one_place c m n p q one is_p is_q =
      let i = one.0.0 in
      let j = one.0.1 in
      let k = keys.found m i one.0.2.0 in
      let l = keys.found n j one.0.3.0 in
      let left : one.1.1.0 ≡ i = cc (one.1.1.1.0, one.0.2.0) in
      let right : one.1.2.0 ≡ j = cc (one.1.2.1.0, one.0.3.0) in
      let first = ap length one.1.1.4 ∙ length_map (substitute one.1.1.2) one.1.1.0.params ∙ ap (λ (x : MethodInfo). length x.params) left in
      let second = ap length one.1.2.4 ∙ length_map (substitute one.1.2.2) one.1.2.0.params ∙ ap (λ (x : MethodInfo). length x.params) right in
      let same : key_of i ≡ key_of j = ap (λ (x : Name). (λ (r : Key). r) (record { name = x.0; arity = length i.params })) one.0.4 ∙ ap (λ x. (λ (r : Key). r) (record { name = j.name.0; arity = x })) (sym first ∙ second) in
      let found : Some k.0 ≡ Some l.0 = sym k.1 ∙ ap find same ∙ l.1 in
      let both : Some p ≡ Some q = sym is_p ∙ k.2 ∙ found ∙ sym l.2 ∙ is_q in
      cc both

  pub key_below : (m q : ℕ) → slice_get keyed m ≡ Some q → q < length keyed
  key_below m q is =
      let lt = slice_get_within keyed m q is in
      let info = there_is w.methods m (let size = keys.size in omega (arith, lt, size)) in
      let k = keys.found m info.0 info.1 in
      let same : k.0 ≡ q = let both : Some k.0 ≡ Some q = sym k.2 ∙ is in cc both in
      let has = keys.only (key_of info.0) k.0 k.1 in
      let small = slice_get_within w.methods k.0 has.0 has.1 in
      let size = keys.size in
      omega (arith, small, same, size)

-- ---- the maps after it

pub has_kept : (old new : Tables) (maps more : List Map) (d : ℕ) (P : ℕ → ℕ → Type 0) → Keeps old new → slice_get more d ≡ slice_get maps d → HasMap old maps d P → HasMap new more d P
has_kept old new maps more d P keeps same h = record {
  map = h.map;
  at = same ∙ h.at;
  good = keeps.good h.map h.good;
  has = λ k m. subst (λ l. Contains l m ↔ P k m) (sym (keeps.same h.map h.good k)) (h.has k m);
}

pub has_made : (t : Tables) (maps more : List Map) (c : ℕ) (map : Map) (P : ℕ → ℕ → Type 0) → c < length maps → more ≡ slice_set maps c map → IsGood t map → ((k m : ℕ) → Contains (listed t map k) m ↔ P k m) → HasMap t more c P
has_made t maps more c map P lt made good has = record { map = map; at = ap (λ l. slice_get l c) made ∙ set_here maps c map lt; good = good; has = has }

-- the maps of c are made
module _ (w : World) (keyed : List ℕ) (limit c : ℕ) (old new : Made) (members able up handed : Map) (making : IsMaking w keyed limit old) (small : c < limit) (keeps : Keeps old.tables new.tables)
    (are_members : new.members.items ≡ slice_set old.members.items c members) (are_able : new.inheritable.items ≡ slice_set old.inheritable.items c able)
    (are_up : new.from_interfaces.items ≡ slice_set old.from_interfaces.items c up) (are_handed : new.handed.items ≡ slice_set old.handed.items c handed) (good : IsGood new.tables members)
    (good_able : IsGood new.tables able) (good_up : IsGood new.tables up) (good' : IsGood new.tables handed)
    (has : (k m : ℕ) → Contains (listed new.tables members k) m ↔ Has w keyed c k m) (can : (k m : ℕ) → Contains (listed new.tables able k) m ↔ CanInherit w keyed c k m)
    (can_up : (k m : ℕ) → Contains (listed new.tables up k) m ↔ CanInheritFromInterface w keyed c k m) (hands : (k m : ℕ) → Contains (listed new.tables handed k) m ↔ HandsDown w keyed c k m) where
  pub now_done : IsDone w keyed new c
  now_done = record {
    members = has_made new.tables old.members.items new.members.items c members _ (let n = making.members in omega (arith, small, n)) are_members good has;
    inheritable = has_made new.tables old.inheritable.items new.inheritable.items c able _ (let n = making.inheritable in omega (arith, small, n)) are_able good_able can;
    from_interfaces = has_made new.tables old.from_interfaces.items new.from_interfaces.items c up _ (let n = making.from_interfaces in omega (arith, small, n)) are_up good_up can_up;
    handed = has_made new.tables old.handed.items new.handed.items c handed _ (let n = making.handed in omega (arith, small, n)) are_handed good' hands;
  }

  pub still_done : (d : ℕ) → IsDone w keyed old d → IsDone w keyed new d
  still_done d h = elim (cases_eq c d) [
    | inl same ↦ subst (IsDone w keyed new) same now_done
    | inr other ↦ record {
      members = has_kept old.tables new.tables old.members.items new.members.items d _ keeps (ap (λ l. slice_get l d) are_members ∙ set_there old.members.items c d members other) h.members;
      inheritable = has_kept old.tables new.tables old.inheritable.items new.inheritable.items d _ keeps (ap (λ l. slice_get l d) are_able ∙ set_there old.inheritable.items c d able other) h.inheritable;
      from_interfaces = has_kept old.tables new.tables old.from_interfaces.items new.from_interfaces.items d _ keeps (ap (λ l. slice_get l d) are_up ∙ set_there old.from_interfaces.items c d up other) h.from_interfaces;
      handed = has_kept old.tables new.tables old.handed.items new.handed.items d _ keeps (ap (λ l. slice_get l d) are_handed ∙ set_there old.handed.items c d handed other) h.handed;
    }
  ]

  pub still_making : IsMaking w keyed limit new
  still_making = record {
    members = ap length are_members ∙ length-set old.members.items c members ∙ making.members;
    inheritable = ap length are_able ∙ length-set old.inheritable.items c able ∙ making.inheritable;
    from_interfaces = ap length are_up ∙ length-set old.from_interfaces.items c up ∙ making.from_interfaces;
    handed = ap length are_handed ∙ length-set old.handed.items c handed ∙ making.handed;
    keys = keeps.keys ∙ making.keys;
    good = λ d map at. elim (cases_eq c d) [
      | inl same ↦ subst (IsGood new.tables) (here d map same at) good'
      | inr other ↦ keeps.good map (making.good d map (there d map other at))
    ];
    only = λ d map k m at h. elim (cases_eq c d) [
      | inl same ↦ subst (λ x. HandsDown w keyed x k m) same ((hands k m).0 (subst (λ x. Contains (listed new.tables x k) m) (sym (here d map same at)) h))
      | inr other ↦
          let was = there d map other at in
          making.only d map k m was (subst (λ l. Contains l m) (keeps.same map (making.good d map was) k) h)
    ];
  }
    where
      here : (d : ℕ) (map : Map) → c ≡ d → slice_get new.handed.items d ≡ Some map → handed ≡ map
      here d map same at =
          let is : slice_get new.handed.items c ≡ Some handed = ap (λ l. slice_get l c) are_handed ∙ set_here old.handed.items c handed (let n = making.handed in omega (arith, small, n)) in
          let both : Some handed ≡ Some map = sym is ∙ ap (slice_get new.handed.items) same ∙ at in
          cc both

      there : (d : ℕ) (map : Map) → (c ≡ d → ⊥) → slice_get new.handed.items d ≡ Some map → slice_get old.handed.items d ≡ Some map
      there d map other at = sym (ap (λ l. slice_get l d) are_handed ∙ set_there old.handed.items c d handed other) ∙ at

-- what a map lists, it lists later
pub lists_later : (t t' : Tables) (map : Map) (P : ℕ → ℕ → Type 0) → Keeps t t' → IsGood t map → ((k m : ℕ) → Lists t map k m ↔ P k m) → (k m : ℕ) → Lists t' map k m ↔ P k m
lists_later t t' map P keeps good has k m = subst (λ l. Contains l m ↔ P k m) (sym (keeps.same map good k)) (has k m)

-- ---- one type

-- no type is a superinterface of itself
pub not_itself : (w : World) → IsSound w → (c : ℕ) → IsSuperinterface w c c → ⊥
not_itself w sound c h = let falls = sound.falls c c h.0.0 h.0.1 in omega (arith, falls)

-- so it is enough to look for it among the others
pub among_others : (w : World) → IsSound w → (c : ℕ) (interfaces others seen : List ℕ) (able handed inh : Map) → seen ≡ others → ((s : ℕ) → Contains interfaces s ↔ IsSuperinterface w c s)
    → ((able ≡ handed) × Contains seen c) ⊎ ((able ≡ inh) × (Contains seen c → ⊥)) → ((able ≡ handed) × Contains (interfaces ++ others) c) ⊎ ((able ≡ inh) × (Contains (interfaces ++ others) c → ⊥))
among_others w sound c interfaces others seen able handed inh is tell (inl x) = inl (x.0, Contains-append_right interfaces others c (subst (λ l. Contains l c) is x.1))
among_others w sound c interfaces others seen able handed inh is tell (inr x) = inr (
  x.0,
  λ h. elim (Contains-append_cases interfaces others c h) [
    | inl y ↦ not_itself w sound c ((tell c).0 y)
    | inr y ↦ x.1 (subst (λ l. Contains l c) (sym is) y)
  ],
)

-- A type that is above itself is Object, and nothing else is above it.
alone_above : (w : World) → IsSound w → (c : ℕ) → IsDirectlyAbove w c c → (s : ℕ) → IsDirectlyAbove w c s → s ≡ c
alone_above w sound c (inl direct) s up = let falls = sound.falls c c direct.0 direct.1 in absurd (omega (arith, falls))
alone_above w sound c (inr object) s (inr other) = other.0 ∙ sym object.0
alone_above w sound c (inr object) s (inl direct) =
    let same : direct.1.0 ≡ object.1.0 = cc (direct.1.1, object.1.1) in
    let none : slice_get [] direct.1.2 ≡ Some (ty.Class s direct.0) = ap (λ l. slice_get l direct.1.2) (sym (ap (λ (i : TypeInfo). i.supers) same ∙ object.1.3)) ∙ direct.1.3 in
    absurd (cc none)

-- each type above has a map
pub have_maps : (w : World) (keyed : List ℕ) (limit c : ℕ) (made : Made) (maps : List Map) (types : List ℕ) → IsMaking w keyed limit made → IsReady w keyed made c → c < limit → maps ≡ made.handed.items
    → ((s : ℕ) → Contains types s ↔ IsDirectlyAbove w c s) → HaveMaps made.tables maps types
have_maps w keyed limit c made maps types making ready small are above s h = elim (cases_eq s c) [
  | inl itself ↦
      let here = there_is made.handed.items c (let n = making.handed in omega (arith, small, n)) in
      (here.0, ap (λ l. slice_get l s) are ∙ ap (slice_get made.handed.items) itself ∙ here.1, making.good c here.0 here.1)
  | inr other ↦ let d = (ready s ((above s).0 h) other).handed in (d.map, ap (λ l. slice_get l s) are ∙ d.at, d.good)
]

module _ (w : World) (find : Key → Option ℕ) (keyed : List ℕ) (keys : AreKeys w find keyed) (c limit : ℕ) (made : Made) (making : IsMaking w keyed limit made) (ready : IsReady w keyed made c)
    (maps : List Map) (are : maps ≡ made.handed.items) (mine types : List ℕ) (groups : List Group) (own : (m : ℕ) → Contains mine m ↔ DeclaresMethod w c m) (grouped : AreGroups keyed mine groups)
    (above : (s : ℕ) → Contains types s ↔ IsDirectlyAbove w c s) where
  abbrev High : ℕ → ℕ → Type 0
  High = IsListedIn made.tables maps types

  -- what is handed down to the type
  high_is : (k m : ℕ) → High k m → (s : ℕ) × IsDirectlyAbove w c s × HandsDown w keyed s k m
  high_is k m h = (h.0, (above h.0).0 h.1, making.only h.0 h.2 k m (ap (λ l. slice_get l h.0) (sym are) ∙ h.3) h.4)

  high_of : (k m s : ℕ) → IsDirectlyAbove w c s → (s ≡ c → ⊥) → HandsDown w keyed s k m → High k m
  high_of k m s up other has = let d = (ready s up other).handed in (s, (above s).1 up, d.map, ap (λ l. slice_get l s) are ∙ d.at, (d.has k m).1 has)

  own_group : (q m : ℕ) → IsInGroup groups q m → DeclaresMethod w c m × (slice_get keyed m ≡ Some q)
  own_group q m h = let g = (grouped.has q m).0 h in ((own m).0 g.0, g.1)

  group_own : (q m : ℕ) → DeclaresMethod w c m → slice_get keyed m ≡ Some q → IsInGroup groups q m
  group_own q m d is = (grouped.has q m).1 ((own m).1 d, is)

  group_below : (i : ℕ) (g : Group) → slice_get groups i ≡ Some g → g.key < made.tables.maps.keys
  group_below i g at =
      let m = grouped.inside i g at in
      let small = key_below w find keyed keys m.0 g.key m.1 in
      let was = making.keys in
      omega (arith, small, was)

  module _ (t : Tables) (inh : Map) (is : IsMapOf made.tables t inh (IsListedIn made.tables maps types)) where
    pub fits : AreApart w c t.maps.keys groups (Lists t inh)
    fits = record {
      declared = λ q m h. (own_group q m h).0;
      single = grouped.single;
      alike = λ q m n h j.
          let d = own_group q m h in
          let u = high_is q n ((is.has q n).0 j) in
          one_name w find keyed keys m n q d.0.0 u.2.0.0.0.0 d.0.1 u.2.0.0.0.1 d.1 u.2.0.0.1;
      apart = λ q k m n h j one.
          let d = own_group q m h in
          let u = high_is k n ((is.has k n).0 j) in
          one_place w find keyed keys c m n q k one d.1 u.2.0.0.1;
      below = λ i g at. let small = group_below i g at in let now = is.keeps.keys in omega (arith, small, now);
    }

    -- the type's members are its own methods and what is handed down and not taken out
    all_members : (k m : ℕ) → IsKeyed w keyed k m → (d : ℕ) → IsMemberMethod w d m → d ≡ c → IsWithAll w c groups High k m
    all_members k m key d (declared own') same = inl (group_own k m (subst (λ x. DeclaresMethod w x m) same own') key.1)
    all_members k m key d (inherited {s = s} up member open' none) same = elim (cases_eq s c) [
      | inl itself ↦ all_members k m key s member itself
      | inr other ↦ inr (
        high_of k m s (subst (λ x. IsDirectlyAbove w x s) same up) other ((key, member), open'),
        λ q o own' one. none o (subst (λ x. DeclaresMethod w x o) (sym same) (own_group q o own').0) (subst (λ x. HaveOneSignatureIn w x o m) (sym same) one),
      )
    ]

    module _ (t' : Tables) (mem : Map) (is' : IsMapOf t t' mem (IsWithAll w c groups (Lists t inh))) where
      pub has_members : (k m : ℕ) → Lists t' mem k m ↔ Has w keyed c k m
      has_members k m = (λ h. forth ((is'.has k m).0 h), λ h. (is'.has k m).1 (low (all_members k m h.0 c h.1 refl)))
        where
          forth : IsWithAll w c groups (Lists t inh) k m → Has w keyed c k m
          forth (inl h) = let d = own_group k m h in (((d.0.0, d.0.1), d.1), declared d.0)
          forth (inr (h, none)) =
              let u = high_is k m ((is.has k m).0 h) in
              (u.2.0.0, inherited u.1 u.2.0.1 u.2.1 (λ o d one. let q = keys.found o d.0 d.1.0 in none q.0 o (group_own q.0 o d q.2) one))

          low : IsWithAll w c groups High k m → IsWithAll w c groups (Lists t inh) k m
          low (inl h) = inl h
          low (inr (h, none)) = inr ((is.has k m).1 h, none)

      -- a member that is private is the type's own
      pub private_own : (k m : ℕ) → Lists t' mem k m → IsPrivateMethod w m → IsInGroup groups k m
      private_own k m h p = elim ((is'.has k m).0 h) [
        | inl x ↦ x
        | inr x ↦ absurd ((high_is k m ((is.has k m).0 x.0)).2.1 p)
      ]

      pub keys_below : (i : ℕ) (g : Group) → slice_get groups i ≡ Some g → g.key < t'.maps.keys
      keys_below i g at = let small = group_below i g at in let now = is.keeps.keys in let then' = is'.keeps.keys in omega (arith, small, now, then')

      -- the type is done
      module _ (interfaces : List ℕ) (tell : (s : ℕ) → Contains interfaces s ↔ IsSuperinterface w c s) (up : Map) (is_up : IsMapOf made.tables t up (IsListedIn made.tables maps interfaces)) (new : Made)
          (able handed : Map) (is'' : IsMapOf t' new.tables handed (λ k m. Lists t' mem k m × (IsPrivateMethod w m → ⊥))) (small : c < limit) (sound : IsSound w)
          (choice : ((able ≡ handed) × Contains types c) ⊎ ((able ≡ inh) × (Contains types c → ⊥))) (are_members : new.members.items ≡ slice_set made.members.items c mem)
          (are_able : new.inheritable.items ≡ slice_set made.inheritable.items c able) (are_up : new.from_interfaces.items ≡ slice_set made.from_interfaces.items c up) (are_handed : new.handed.items ≡ slice_set made.handed.items c handed) where
        keeps : Keeps made.tables new.tables
        keeps = keeps_both made.tables t new.tables is.keeps (keeps_both t t' new.tables is'.keeps is''.keeps)

        has : (k m : ℕ) → Lists new.tables mem k m ↔ Has w keyed c k m
        has = lists_later t' new.tables mem (Has w keyed c) is''.keeps is'.good has_members

        hands : (k m : ℕ) → Lists new.tables handed k m ↔ HandsDown w keyed c k m
        hands k m = (λ x. let h = (is''.has k m).0 x in ((has_members k m).0 h.0, h.1), λ h. (is''.has k m).1 ((has_members k m).1 h.0, h.1))

        later : Keeps t new.tables
        later = keeps_both t t' new.tables is'.keeps is''.keeps

        good_able : IsGood new.tables able
        good_able = elim choice [
          | inl x ↦ subst (IsGood new.tables) (sym x.0) is''.good
          | inr x ↦ subst (IsGood new.tables) (sym x.0) (later.good inh is.good)
        ]

        -- what is above the type is its own, where it is above itself
        of_itself : Contains types c → (k m : ℕ) → Lists new.tables handed k m ↔ CanInherit w keyed c k m
        of_itself own_type k m = (
          λ x. let h = (hands k m).0 x in (h.0.0, ((c, (above c).0 own_type, h.0.1), h.1)),
          λ h.
              let same = alone_above w sound c ((above c).0 own_type) h.1.0.0 h.1.0.1 in
              (hands k m).1 ((h.0, subst (λ s. IsMemberMethod w s m) same h.1.0.2), h.1.1),
        )

        -- and that of others, where it is not
        of_others : (Contains types c → ⊥) → (k m : ℕ) → Lists new.tables inh k m ↔ CanInherit w keyed c k m
        of_others not = lists_later t new.tables inh (CanInherit w keyed c) later is.good (λ k m. (
          λ x. let u = high_is k m ((is.has k m).0 x) in (u.2.0.0, ((u.0, u.1, u.2.0.1), u.2.1)),
          λ h.
              let s = h.1.0 in
              (is.has k m).1 (high_of k m s.0 s.1 (λ same. not (subst (Contains types) same ((above s.0).1 s.1))) ((h.0, s.2), h.1.1)),
        ))

        can : (k m : ℕ) → Lists new.tables able k m ↔ CanInherit w keyed c k m
        can k m = elim choice [
          | inl x ↦ subst (λ map. Lists new.tables map k m ↔ CanInherit w keyed c k m) (sym x.0) (of_itself x.1 k m)
          | inr x ↦ subst (λ map. Lists new.tables map k m ↔ CanInherit w keyed c k m) (sym x.0) (of_others x.1 k m)
        ]

        -- what its interfaces hand down
        can_up : (k m : ℕ) → Lists new.tables up k m ↔ CanInheritFromInterface w keyed c k m
        can_up = lists_later t new.tables up (CanInheritFromInterface w keyed c) later is_up.good (λ k m. (
          λ x.
              let h = (is_up.has k m).0 x in
              let u = making.only h.0 h.2 k m (ap (λ l. slice_get l h.0) (sym are) ∙ h.3) h.4 in
              (u.0.0, ((h.0, (tell h.0).0 h.1, u.0.1), u.1)),
          λ h.
              let i = h.1.0 in
              let other : i.0 ≡ c → ⊥ = λ same. not_itself w sound c (subst (IsSuperinterface w c) same i.1) in
              let d = (ready i.0 (inl i.1.0) other).handed in
              (is_up.has k m).1 (i.0, (tell i.0).1 i.1, d.map, ap (λ l. slice_get l i.0) are ∙ d.at, (d.has k m).1 ((h.0, i.2), h.1.1)),
        ))

        pub step_done : IsDone w keyed new c
        step_done = now_done w keyed limit c made new mem able up handed making small keeps are_members are_able are_up are_handed (is''.keeps.good mem is'.good) good_able (later.good up is_up.good) is''.good has can can_up hands

        pub step_kept : (d : ℕ) → IsDone w keyed made d → IsDone w keyed new d
        step_kept = still_done w keyed limit c made new mem able up handed making small keeps are_members are_able are_up are_handed (is''.keeps.good mem is'.good) good_able (later.good up is_up.good) is''.good has can can_up hands

        pub step_making : IsMaking w keyed limit new
        step_making = still_making w keyed limit c made new mem able up handed making small keeps are_members are_able are_up are_handed (is''.keeps.good mem is'.good) good_able (later.good up is_up.good) is''.good has can can_up hands

-- nothing is made yet
pub making_none : (w : World) (keyed : List ℕ) (limit : ℕ) (made : Made) (empty : Map) → made.members.items ≡ replicate limit empty → made.inheritable.items ≡ replicate limit empty → made.from_interfaces.items ≡ replicate limit empty
    → made.handed.items ≡ replicate limit empty → made.tables.maps.keys ≡ length keyed
    → IsGood made.tables empty → ((k : ℕ) → listed made.tables empty k ≡ []) → IsMaking w keyed limit made
making_none w keyed limit made empty members able up handed keys good none = record {
  members = ap length members ∙ length-replicate limit empty;
  inheritable = ap length able ∙ length-replicate limit empty;
  from_interfaces = ap length up ∙ length-replicate limit empty;
  handed = ap length handed ∙ length-replicate limit empty;
  keys = keys;
  good = λ c map at. subst (IsGood made.tables) (sym (only c map at)) good;
  only = λ c map k m at h.
      let x : Contains [] m = subst (λ l. Contains l m) (ap (λ x. listed made.tables x k) (only c map at) ∙ none k) h in
      absurd (omega (arith, x.1));
}
  where
    one : (n c : ℕ) (map : Map) → slice_get (replicate n empty) c ≡ Some map → map ≡ empty
    one zero c map e = absurd (cc e)
    one (suc n) zero map e = let same : empty ≡ map = cc e in sym same
    one (suc n) (suc c) map e = one n c map e

    only : (c : ℕ) (map : Map) → slice_get made.handed.items c ≡ Some map → map ≡ empty
    only c map at = one limit c map (sym (ap (λ l. slice_get l c) handed) ∙ at)

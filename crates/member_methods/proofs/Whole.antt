-- The maps of all types, and what they answer by name and number of parameters.
use Rattle.std.proofs.Common.{◌≡◌, ℕ, ◌+◌, ◌<◌, ◌≤◌, List, [], Option, None, Some, ◌⊎◌, inl, inr, ◌↔◌, refl, sym, ap, ◌∙◌, subst, length, arith}
use Rattle.std.specs.Prelude.{slice_get, unwrap_or}
use Rattle.std.specs.List.{Contains}
use Rattle.std.specs.List.Sorted.{IsStrictlyIncreasing}
use Rattle.std.proofs.lemmas.Bool.{cases_lt}
use Rattle.std.proofs.lemmas.Option.{slice_get_within}
use Rattle.java_tree.specs.declared.tree.Name.{Name}
use Rattle.class_world.specs.declared.world.World.{World}
use Rattle.class_world.specs.declared.world.MethodInfo.{MethodInfo}
use Rattle.class_world.specs.Sequences.{IsSequence}
use Rattle.class_world.specs.Inheritance.{IsDirectlyAbove, IsMemberMethod, declared, inherited}
use Rattle.class_world.proofs.Substs.{there_is}
use Rattle.shared_maps.specs.declared.Map.{Map}
use Rattle.shared_maps.specs.Maps.{value_in}
use Rattle.member_methods.specs.declared.keys.Key.{Key}
use Rattle.member_methods.specs.declared.tables.Tables.{Tables}
use Rattle.member_methods.specs.declared.made.Made.{Made}
use Rattle.member_methods.specs.Keys.{key_of, AreKeys}
use Rattle.member_methods.specs.Lists.{list_at}
use Rattle.member_methods.specs.Tables.{listed, IsGood}
use Rattle.member_methods.specs.Own.{IsOwnerLimit}
use Rattle.member_methods.specs.Made.{CanInherit, CanInheritFromInterface, Has, IsKeyed, IsDone, IsReady, HasMap}
use Rattle.member_methods.specs.declared.MethodLists.{MethodLists}
use Rattle.member_methods.specs.Methods.{AreNamed, AreInheritable, IsCalled, IsFromInterface, IsInheritable, IsListedAt, listed_by}
use Rattle.member_methods.proofs.Firsts.{Among, among_cases}

-- ---- what is ready

-- Object and the first i of the sequence are done
abbrev pub AreDone : World → List ℕ → Made → List ℕ → ℕ → Type 0
AreDone w keyed made order i = (d : ℕ) → (d ≡ 0) ⊎ Among order i d → IsDone w keyed made d

pub next_ready : (w : World) (keyed : List ℕ) (made : Made) (order : List ℕ) (i c : ℕ) → IsSequence w order → slice_get order i ≡ Some c → AreDone w keyed made order i → IsReady w keyed made c
next_ready w keyed made order i c seq at done s (inl direct) other = let b = seq.before i c s direct.0 at direct.1 in done s (inr (b.0, b.1, b.2))
next_ready w keyed made order i c seq at done s (inr object) other = done s (inl object.0)

pub next_done : (w : World) (keyed : List ℕ) (old new : Made) (order : List ℕ) (i c : ℕ) → slice_get order i ≡ Some c → AreDone w keyed old order i
    → ((d : ℕ) → IsDone w keyed old d → IsDone w keyed new d) → IsDone w keyed new c → AreDone w keyed new order (i + 1)
next_done w keyed old new order i c at done kept here d (inl same) = kept d (done d (inl same))
next_done w keyed old new order i c at done kept here d (inr some) = elim (among_cases order i d c at some) [
  | inl early ↦ kept d (done d (inr early))
  | inr last ↦ subst (IsDone w keyed new) (sym last) here
]

-- Object in its place
pub object_done : (w : World) (keyed : List ℕ) (made : Made) (order : List ℕ) (i c : ℕ) → slice_get order i ≡ Some c → c ≡ 0 → AreDone w keyed made order i → AreDone w keyed made order (i + 1)
object_done w keyed made order i c at zero_is done d (inl same) = done d (inl same)
object_done w keyed made order i c at zero_is done d (inr some) = elim (among_cases order i d c at some) [
  | inl early ↦ done d (inr early)
  | inr last ↦ done d (inl (last ∙ zero_is))
]

-- those below a number
abbrev pub AreDoneBelow : World → List ℕ → Made → ℕ → Type 0
AreDoneBelow w keyed made n = (d : ℕ) → d < n → IsDone w keyed made d

pub types_done : (w : World) (keyed : List ℕ) (made : Made) (order : List ℕ) (i : ℕ) → IsSequence w order → length order ≤ i → AreDone w keyed made order i → AreDoneBelow w keyed made (length w.types)
types_done w keyed made order i seq full done d lt =
    let at = seq.all d lt in
    done d (inr (at.0, (let within = slice_get_within order at.0 d at.1 in omega (arith, within, full)), at.1))

-- nothing is above a number of no type
pub past_ready : (w : World) (keyed : List ℕ) (made : Made) (c : ℕ) → length w.types ≤ c → IsReady w keyed made c
past_ready w keyed made c past s (inl direct) other = let lt = slice_get_within w.types c direct.1.0 direct.1.1 in absurd (omega (arith, lt, past))
past_ready w keyed made c past s (inr object) other = let lt = slice_get_within w.types c object.1.0 object.1.1 in absurd (omega (arith, lt, past))

pub below_next : (w : World) (keyed : List ℕ) (old new : Made) (c : ℕ) → AreDoneBelow w keyed old c → ((d : ℕ) → IsDone w keyed old d → IsDone w keyed new d) → IsDone w keyed new c → AreDoneBelow w keyed new (c + 1)
below_next w keyed old new c done kept here d lt = elim (cases_lt d c) [
  | inl low ↦ kept d (done d low)
  | inr high ↦ let same : c ≡ d = omega (arith, lt, high) in subst (IsDone w keyed new) same here
]

-- ---- the answers

-- nothing is above a number that is above those of all types
none_above : (w : World) (limit c s : ℕ) → IsOwnerLimit w limit → limit ≤ c → IsDirectlyAbove w c s → ⊥
none_above w limit c s lim past (inl direct) =
    let lt = slice_get_within w.types c direct.1.0 direct.1.1 in
    let types = lim.types in
    omega (arith, lt, types, past)
none_above w limit c s lim past (inr object) =
    let lt = slice_get_within w.types c object.1.0 object.1.1 in
    let types = lim.types in
    omega (arith, lt, types, past)

-- a number above all owners has no member
no_member : (w : World) (limit c m : ℕ) → IsOwnerLimit w limit → limit ≤ c → IsMemberMethod w c m → ⊥
no_member w limit c m lim past (declared d) = let lt = lim.owners m d.0 d.1.0 in let same = d.2 in omega (arith, lt, same, past)
no_member w limit c m lim past (inherited {s = s} up member open' none) = none_above w limit c s lim past up

empty_increases : IsStrictlyIncreasing []
empty_increases k lt = absurd (omega (arith, lt))

none_in : (m : ℕ) → Contains [] m → ⊥
none_in m h = omega (arith, h.1)

-- what a good map lists ascends
listed_ascends : (t : Tables) (map : Map) (k : ℕ) → IsGood t map → IsStrictlyIncreasing (listed t map k)
listed_ascends t map k good = go (value_in t.maps map k) refl
  where
    go : (o : Option ℕ) → value_in t.maps map k ≡ o → IsStrictlyIncreasing (list_at t.lists o)
    go None e = empty_increases
    go (Some n) e =
        let list = good.lists k n e in
        subst IsStrictlyIncreasing (sym (ap (λ o. unwrap_or o []) list.1)) list.2

-- of the methods of which P holds those with this name and number of parameters, ascending
abbrev AreCalled : World → Name → ℕ → (ℕ → Type 0) → List ℕ → Type 0
AreCalled w n arity P ms = ((m : ℕ) → Contains ms m ↔ (P m × IsCalled w n arity m)) × IsStrictlyIncreasing ms

module _ (w : World) (find : Key → Option ℕ) (keyed : List ℕ) (keys : AreKeys w find keyed) (c : ℕ) (n : Name) (arity : ℕ) where
  asked : Key
  asked = record { name = n.0; arity = arity }

  key_asked : (info : MethodInfo) → info.name ≡ n → length info.params ≡ arity → key_of info ≡ asked
  unfolding asked
  key_asked info name count = ap (λ (x : Name). (λ (r : Key). r) (record { name = x.0; arity = length info.params })) name ∙ ap (λ x. (λ (r : Key). r) (record { name = n.0; arity = x })) count

  keyed_called : (k m : ℕ) → find asked ≡ Some k → IsKeyed w keyed k m ↔ IsCalled w n arity m
  unfolding asked
  keyed_called k m found = (
    λ h.
        let info = h.0.0 in
        let key = keys.found m info h.0.1.0 in
        let same : key.0 ≡ k = let both : Some key.0 ≡ Some k = sym key.2 ∙ h.1 in cc both in
        let one = keys.only (key_of info) k (key.1 ∙ ap Some same) in
        let two = keys.only asked k found in
        let infos : one.0 ≡ two.0 = cc (one.1, two.1) in
        let is : key_of info ≡ asked = sym one.2 ∙ ap key_of infos ∙ two.2 in
        (info, h.0.1, ap (λ (x : Key). (λ (r : Name). r) (record { 0 = x.name })) is, ap (λ (x : Key). x.arity) is),
    λ h.
        let info = h.0 in
        let key = keys.found m info h.1.0 in
        let same : key.0 ≡ k = let both : Some key.0 ≡ Some k = sym key.1 ∙ ap find (key_asked info h.2 h.3) ∙ found in cc both in
        ((info, h.1), key.2 ∙ ap Some same),
  )

  not_called : (m : ℕ) → find asked ≡ None → IsCalled w n arity m → ⊥
  not_called m none h =
      let info = h.0 in
      let key = keys.found m info h.1.0 in
      let never : Some key.0 ≡ None = sym key.1 ∙ ap find (key_asked info h.2 h.3) ∙ none in
      cc never

  -- of the methods of which P says that the type c has them, those that are called so
  pub all_called : (t : Tables) (maps : List Map) (P : ℕ → ℕ → Type 0) → ((m : ℕ) → length maps ≤ c → P c m → ⊥) → ((d : ℕ) → d < length maps → HasMap t maps d (λ k m. IsKeyed w keyed k m × P d m))
      → AreCalled w n arity (P c) (listed_by t (slice_get maps c) (find (record { name = n.0; arity = arity })))
  unfolding asked
  all_called t maps P none_past each = at_map (slice_get maps c) refl (find asked) refl
    where
      at_map : (o : Option Map) → slice_get maps c ≡ o → (f : Option ℕ) → find asked ≡ f → AreCalled w n arity (P c) (listed_by t o f)
      at_map None none f is = (
        λ m. (λ h. absurd (none_in m h), λ h. absurd (none_past m (past none) h.0)),
        empty_increases,
      )
        where
          past : slice_get maps c ≡ None → length maps ≤ c
          past e = elim (cases_lt c (length maps)) [
            | inl lt ↦ let x = there_is maps c lt in let never : None ≡ Some x.0 = sym e ∙ x.1 in absurd (cc never)
            | inr ge ↦ ge
          ]
      at_map (Some map) at None is = (λ m. (λ h. absurd (none_in m h), λ h. absurd (not_called m is h.1)), empty_increases)
      at_map (Some map) at (Some k) is =
          let has = each c (slice_get_within maps c map at) in
          let same : has.map ≡ map = let both : Some has.map ≡ Some map = sym has.at ∙ at in cc both in
          subst (λ x. AreCalled w n arity (P c) (listed t x k)) same (
            λ m. let says = keyed_called k m is in (
              λ h. let x = (has.has k m).0 h in (x.1, says.0 x.0),
              λ h. (has.has k m).1 (says.1 h.1, h.0),
            ),
            listed_ascends t has.map k has.good,
          )

pub all_named : (w : World) (find : Key → Option ℕ) (keyed : List ℕ) → AreKeys w find keyed → (c : ℕ) (n : Name) (arity : ℕ) (t : Tables) (maps : List Map) → IsOwnerLimit w (length maps)
    → ((d : ℕ) → d < length maps → HasMap t maps d (Has w keyed d)) → AreNamed w c n arity (listed_by t (slice_get maps c) (find (record { name = n.0; arity = arity })))
all_named w find keyed keys c n arity t maps limit each = all_called w find keyed keys c n arity t maps (IsMemberMethod w) (λ m past h. no_member w (length maps) c m limit past h) each

pub all_inheritable : (w : World) (find : Key → Option ℕ) (keyed : List ℕ) → AreKeys w find keyed → (c : ℕ) (n : Name) (arity : ℕ) (t : Tables) (maps : List Map) → IsOwnerLimit w (length maps)
    → ((d : ℕ) → d < length maps → HasMap t maps d (CanInherit w keyed d)) → AreInheritable w c n arity (listed_by t (slice_get maps c) (find (record { name = n.0; arity = arity })))
all_inheritable w find keyed keys c n arity t maps limit each =
    all_called w find keyed keys c n arity t maps (IsInheritable w) (λ m past h. none_above w (length maps) c h.0.0 limit past h.0.1) each

-- ---- all members of a type

-- a member method has a key
member_keyed : (w : World) (find : Key → Option ℕ) (keyed : List ℕ) → AreKeys w find keyed → (c m : ℕ) → IsMemberMethod w c m → (k : ℕ) × IsKeyed w keyed k m
member_keyed w find keyed keys c m (declared d) = let key = keys.found m d.0 d.1.0 in (key.0, ((d.0, d.1), key.2))
member_keyed w find keyed keys c m (inherited above member open' none) = member_keyed w find keyed keys _ m member

-- of the methods of which P says that the type c has them, all
module _ (w : World) (find : Key → Option ℕ) (keyed : List ℕ) (keys : AreKeys w find keyed) (t : Tables) (maps : List Map) (P : ℕ → ℕ → Type 0) (none_past : (c m : ℕ) → length maps ≤ c → P c m → ⊥)
    (is_keyed : (c m : ℕ) → P c m → (k : ℕ) × IsKeyed w keyed k m) (each : (d : ℕ) → d < length maps → HasMap t maps d (λ k m. IsKeyed w keyed k m × P d m)) where
  all_at : (c m : ℕ) → ((map : Map) × (slice_get maps c ≡ Some map) × ((k : ℕ) × Contains (listed t map k) m)) ↔ P c m
  all_at c m = (
    λ h.
        let has = each c (slice_get_within maps c h.0 h.1) in
        let same : has.map ≡ h.0 = let both : Some has.map ≡ Some h.0 = sym has.at ∙ h.1 in cc both in
        ((has.has h.2.0 m).0 (subst (λ x. Contains (listed t x h.2.0) m) (sym same) h.2.1)).1,
    λ there.
        let key = is_keyed c m there in
        elim (cases_lt c (length maps)) [
          | inl lt ↦ let has = each c lt in (has.map, has.at, (key.0, (has.has key.0 m).1 (key.1, there)))
          | inr ge ↦ absurd (none_past c m ge there)
        ],
  )

pub all_listed : (w : World) (find : Key → Option ℕ) (keyed : List ℕ) → AreKeys w find keyed → (t : Tables) (maps : List Map) → IsOwnerLimit w (length maps)
    → ((d : ℕ) → d < length maps → HasMap t maps d (Has w keyed d)) → (c m : ℕ) → ((map : Map) × (slice_get maps c ≡ Some map) × ((k : ℕ) × Contains (listed t map k) m)) ↔ IsMemberMethod w c m
all_listed w find keyed keys t maps limit each =
    all_at w find keyed keys t maps (IsMemberMethod w) (λ c m past h. no_member w (length maps) c m limit past h) (member_keyed w find keyed keys) each

pub all_from_interfaces : (w : World) (find : Key → Option ℕ) (keyed : List ℕ) → AreKeys w find keyed → (t : Tables) (maps : List Map) → IsOwnerLimit w (length maps)
    → ((d : ℕ) → d < length maps → HasMap t maps d (CanInheritFromInterface w keyed d)) → (c m : ℕ) → ((map : Map) × (slice_get maps c ≡ Some map) × ((k : ℕ) × Contains (listed t map k) m)) ↔ IsFromInterface w c m
all_from_interfaces w find keyed keys t maps limit each =
    all_at w find keyed keys t maps (IsFromInterface w) (λ c m past h. none_above w (length maps) c h.0.0 limit past (inl h.0.1.0)) (λ c m h. member_keyed w find keyed keys h.0.0 m h.0.2) each

-- ---- what is listed at one place

pub of_map : (t : MethodLists) (maps : List Map) (c : ℕ) (map : Map) (m : ℕ) → slice_get maps c ≡ Some map → ((k : ℕ) × Contains (listed t.tables map k) m) ↔ IsListedAt t maps c m
of_map t maps c map m at = (
  λ h. (map, at, h),
  λ x.
      let same : x.0 ≡ map = let both : Some x.0 ≡ Some map = sym x.1 ∙ at in cc both in
      (x.2.0, subst (λ y. Contains (listed t.tables y x.2.0) m) same x.2.1),
)

pub of_no_map : (t : MethodLists) (maps : List Map) (c m : ℕ) → slice_get maps c ≡ None → Contains [] m ↔ IsListedAt t maps c m
of_no_map t maps c m none = (
  λ h. absurd (none_in m h),
  λ x. let never : None ≡ Some x.0 = sym none ∙ x.1 in absurd (cc never),
)

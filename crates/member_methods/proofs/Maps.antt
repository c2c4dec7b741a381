-- Maps to lists, as their memory grows.
use Rattle.std.proofs.Common.{◌≡◌, ℕ, ◌+◌, ◌<◌, ◌≤◌, ◌++◌, List, [], Option, None, Some, ◌⊎◌, inl, inr, ◌↔◌, refl, sym, ap, ◌∙◌, subst, length, arith}
use Rattle.std.specs.Prelude.{slice_get, if◌then◌else◌, ◌==◌, Result, Ok, Err, IfOk}
use Rattle.std.specs.List.{Contains}
use Rattle.std.specs.Option.{option_or}
use Rattle.std.proofs.lemmas.Bool.{cases_lt, cases_eq, eq-eqb, ne_eqb, cond-true, cond-false}
use Rattle.std.proofs.lemmas.Option.{slice_get_within}
use Rattle.std.proofs.lemmas.List.Elements.{Contains-append_left, Contains-append_right, Contains-append_cases}
use Rattle.shared_maps.specs.declared.Map.{Map}
use Rattle.shared_maps.specs.Trees.{Memory}
use Rattle.shared_maps.specs.Maps.{AreDiffering, AreEntries, IsMap, KeepsMaps, value_in}
use Rattle.shared_maps.proofs.Views.{value_outside}
use Rattle.member_methods.specs.declared.tables.Tables.{Tables}
use Rattle.member_methods.specs.Lists.{list_at, IsList, Grows, IsListOf}
use Rattle.member_methods.specs.Tables.{listed, IsGood, Keeps, IsMapOf}
use Rattle.member_methods.proofs.Arena.{grown_at, grown_list}
use Rattle.member_methods.proofs.Firsts.{at_contains, contains_at, low_or_last}

-- ---- answers

pub if_ok : {A E : Type 0} (r : Result A E) (P Q : A → Type 0) → ((x : A) → P x → Q x) → IfOk r P → IfOk r Q
if_ok (Ok x) P Q f h = f x h
if_ok (Err e) P Q f h = h

pub if_ok_three : {A E : Type 0} (r : Result A E) (P Q R : A → Type 0) → ((x : A) → P x → Q x → R x) → IfOk r P → IfOk r Q → IfOk r R
if_ok_three (Ok x) P Q R f h j = f x h j
if_ok_three (Err e) P Q R f h j = h

-- ---- what stays

pub keeps_same : (t : Tables) → Keeps t t
keeps_same t = record { keys = refl; grows = λ n xs e. e; good = λ map h. h; same = λ map h k. refl }

pub keeps_both : (a b c : Tables) → Keeps a b → Keeps b c → Keeps a c
keeps_both a b c p q = record {
  keys = q.keys ∙ p.keys;
  grows = λ n xs e. q.grows n xs (p.grows n xs e);
  good = λ map h. q.good map (p.good map h);
  same = λ map h k. q.same map (p.good map h) k ∙ p.same map h k;
}

pub keeps_grown : (old : Tables) (maps : Memory) (lists : List (List ℕ)) → KeepsMaps old.maps maps → Grows old.lists lists → Keeps old (record { maps = maps; lists = lists })
keeps_grown old maps lists kept grows = record {
  keys = kept.keys;
  grows = grows;
  good = λ map h. record { there = kept.map map h.there; lists = λ k n e. grown_list old.lists lists grows n (h.lists k n (sym (kept.value map h.there k) ∙ e)) };
  same = λ map h k. ap (list_at lists) (kept.value map h.there k) ∙ grown_at old.lists lists grows (value_in old.maps map k) (h.lists k);
}

-- ---- what a map lists

pub map_says : (old new : Tables) (map : Map) (P Q : ℕ → ℕ → Type 0) → ((k m : ℕ) → P k m ↔ Q k m) → IsMapOf old new map P → IsMapOf old new map Q
map_says old new map P Q says h = record { good = h.good; keeps = h.keeps; has = λ k m. (λ x. (says k m).0 ((h.has k m).0 x), λ x. (h.has k m).1 ((says k m).1 x)) }

-- the map, where more was done since
pub map_later : (old now new : Tables) (map : Map) (P : ℕ → ℕ → Type 0) → IsMapOf old now map P → Keeps now new → IsMapOf old new map P
map_later old now new map P is keeps = record {
  good = keeps.good map is.good;
  keeps = keeps_both old now new is.keeps keeps;
  has = λ k m. subst (λ l. Contains l m ↔ P k m) (sym (keeps.same map is.good k)) (is.has k m);
}

-- the map itself, where nothing was done
pub map_there : (t : Tables) (map : Map) (P : ℕ → ℕ → Type 0) → IsGood t map → ((k m : ℕ) → Contains (listed t map k) m ↔ P k m) → IsMapOf t t map P
map_there t map P good has = record { good = good; keeps = keeps_same t; has = has }

-- ---- a key's list put in

module _ (old : Tables) (maps : Memory) (lists : List (List ℕ)) (map put : Map) (key n : ℕ) (good : IsGood old map) (small : key < old.maps.keys)
    (is : (k : ℕ) → k < old.maps.keys → value_in maps put k ≡ (if k == key then Some n else value_in old.maps map k)) (kept : KeepsMaps old.maps maps) where
  value_put : (k : ℕ) → ((k ≡ key) × (value_in maps put k ≡ Some n)) ⊎ ((k ≡ key → ⊥) × (value_in maps put k ≡ value_in old.maps map k))
  value_put k = elim (cases_eq k key) [
    | inl same ↦
        let lt : k < old.maps.keys = subst (λ x. x < old.maps.keys) (sym same) small in
        inl (same, is k lt ∙ cond-true (k == key) (Some n) (value_in old.maps map k) (eq-eqb k key same))
    | inr other ↦ inr (
      other,
      elim (cases_lt k old.maps.keys) [
        | inl lt ↦ is k lt ∙ cond-false (k == key) (Some n) (value_in old.maps map k) (ne_eqb k key other)
        | inr past ↦ let keys = kept.keys in value_outside maps put k (omega (arith, past, keys)) ∙ sym (value_outside old.maps map k past)
      ],
    )
  ]

  new : Tables
  new = record { maps = maps; lists = lists }

  pub map_put : (P : ℕ → Type 0) → IsMap maps put → IsListOf old.lists lists n P
      → IsMapOf old (record { maps = maps; lists = lists }) put (λ k m. ((k ≡ key) × P m) ⊎ ((k ≡ key → ⊥) × Contains (listed old map k) m))
  map_put P there list = record {
    good = record {
      there = there;
      lists = λ k i e. elim (value_put k) [
        | inl here ↦ let same : i ≡ n = cc (e, here.1) in subst (IsList lists) (sym same) list.list
        | inr else' ↦ grown_list old.lists lists list.grows i (good.lists k i (sym else'.1 ∙ e))
      ];
    };
    keeps = keeps_grown old maps lists kept list.grows;
    has = λ k m. elim (value_put k) [
      | inl here ↦
          let says = list.has m in
          let is : list_at lists (value_in maps put k) ≡ list_at lists (Some n) = ap (list_at lists) here.1 in (
            λ x. inl (here.0, says.0 (subst (λ l. Contains l m) is x)),
            λ h. elim h [ inl x ↦ subst (λ l. Contains l m) (sym is) (says.1 x.1) | inr x ↦ absurd (x.0 here.0) ],
          )
      | inr else' ↦
          let is : list_at lists (value_in maps put k) ≡ listed old map k = ap (list_at lists) else'.1 ∙ grown_at old.lists lists list.grows (value_in old.maps map k) (good.lists k) in (
            λ x. inr (else'.0, subst (λ l. Contains l m) is x),
            λ h. elim h [ inl x ↦ absurd (else'.0 x.0) | inr x ↦ subst (λ l. Contains l m) (sym is) x.1 ],
          )
    ];
  }

-- ---- a list joined to a key's

-- nothing is there
pub says_new : (old : Tables) (map : Map) (key n : ℕ) → value_in old.maps map key ≡ None → (k m : ℕ)
    → (((k ≡ key) × Contains (list_at old.lists (Some n)) m) ⊎ ((k ≡ key → ⊥) × Contains (listed old map k) m)) ↔ (Contains (listed old map k) m ⊎ ((k ≡ key) × Contains (list_at old.lists (Some n)) m))
says_new old map key n none k m = (
  λ h. elim h [ inl x ↦ inr x | inr x ↦ inl x.1 ],
  λ h. elim h [
    | inl x ↦ elim (cases_eq k key) [
      | inl same ↦
          let empty : listed old map k ≡ [] = ap (λ i. list_at old.lists (value_in old.maps map i)) same ∙ ap (list_at old.lists) none in
          let h : Contains [] m = subst (λ l. Contains l m) empty x in
          absurd (omega (arith, h.1))
      | inr other ↦ inr (other, x)
    ]
    | inr x ↦ inl x
  ],
)

-- a list is there
pub says_joined : (old : Tables) (map : Map) (key n here : ℕ) → value_in old.maps map key ≡ Some here → (k m : ℕ)
    → (((k ≡ key) × (Contains (list_at old.lists (Some here)) m ⊎ Contains (list_at old.lists (Some n)) m)) ⊎ ((k ≡ key → ⊥) × Contains (listed old map k) m))
    ↔ (Contains (listed old map k) m ⊎ ((k ≡ key) × Contains (list_at old.lists (Some n)) m))
says_joined old map key n here some k m = (
  λ h. elim h [
    | inl x ↦ elim x.1 [ inl y ↦ inl (subst (λ l. Contains l m) (sym (at x.0)) y) | inr y ↦ inr (x.0, y) ]
    | inr x ↦ inl x.1
  ],
  λ h. elim h [
    | inl x ↦ elim (cases_eq k key) [ inl same ↦ inl (same, inl (subst (λ l. Contains l m) (at same) x)) | inr other ↦ inr (other, x) ]
    | inr x ↦ inl (x.0, inr x.1)
  ],
)
  where
    at : k ≡ key → listed old map k ≡ list_at old.lists (Some here)
    at same = ap (λ i. list_at old.lists (value_in old.maps map i)) same ∙ ap (list_at old.lists) some

-- and it has all
pub joined_there : (old new : Tables) (map : Map) (key n here both : ℕ) → IsGood old map → value_in old.maps map key ≡ Some here → new.maps ≡ old.maps → both ≡ here
    → IsListOf old.lists new.lists both (λ m. Contains (list_at old.lists (Some here)) m ⊎ Contains (list_at old.lists (Some n)) m)
    → IsMapOf old new map (λ k m. Contains (listed old map k) m ⊎ ((k ≡ key) × Contains (list_at old.lists (Some n)) m))
joined_there old new map key n here both good some same_maps same list = record {
  good = keeps.good map good;
  keeps = keeps;
  has = λ k m. (
    λ x. inl (subst (λ l. Contains l m) (keeps.same map good k) x),
    λ h. elim h [
      | inl x ↦ subst (λ l. Contains l m) (sym (keeps.same map good k)) x
      | inr x ↦
          let has : Contains (list_at new.lists (Some here)) m = subst (λ i. Contains (list_at new.lists (Some i)) m) same ((list.has m).1 (inr x.1)) in
          let at : listed new map k ≡ list_at new.lists (Some here) = ap (λ i. list_at new.lists (value_in new.maps map i)) x.0 ∙ ap (λ o. list_at new.lists (value_in o map key)) same_maps ∙ ap (list_at new.lists) some in
          subst (λ l. Contains l m) (sym at) has
    ],
  );
}
  where
    keeps : Keeps old new
    keeps = subst (λ (m : Memory). Keeps old (record { maps = m; lists = new.lists })) (sym same_maps) (keeps_grown old old.maps new.lists (record { keys = refl; map = λ m h. h; value = λ m h k. refl }) list.grows)

-- the list is that of another map
pub says_more : (old : Tables) (map more : Map) (key n : ℕ) → value_in old.maps more key ≡ Some n → (k m : ℕ)
    → (Contains (listed old map k) m ⊎ ((k ≡ key) × Contains (list_at old.lists (Some n)) m)) ↔ (Contains (listed old map k) m ⊎ ((k ≡ key) × Contains (listed old more k) m))
says_more old map more key n some k m = (
  λ h. elim h [ inl x ↦ inl x | inr x ↦ inr (x.0, subst (λ l. Contains l m) (sym (at x.0)) x.1) ],
  λ h. elim h [ inl x ↦ inl x | inr x ↦ inr (x.0, subst (λ l. Contains l m) (at x.0) x.1) ],
)
  where
    at : k ≡ key → listed old more k ≡ list_at old.lists (Some n)
    at same = ap (λ i. list_at old.lists (value_in old.maps more i)) same ∙ ap (list_at old.lists) some

-- ---- two maps joined

-- so far: what is at one of the maps' keys, and what `more` lists for the first i of the keys that differ
abbrev pub IsJoinedFirst : Tables → Map → Map → List ℕ → ℕ → ℕ → ℕ → Type 0
IsJoinedFirst t map more keys i k m =
    Contains (list_at t.lists (option_or (value_in t.maps map k) (value_in t.maps more k))) m ⊎ ((j : ℕ) × (j < i) × (slice_get keys j ≡ Some k) × Contains (listed t more k) m)

-- the union
pub joined_first : (old : Tables) (maps : Memory) (map more both : Map) (keys : List ℕ) → IsGood old map → IsGood old more → IsMap maps both → KeepsMaps old.maps maps
    → ((k : ℕ) → value_in maps both k ≡ option_or (value_in old.maps map k) (value_in old.maps more k))
    → IsMapOf old (record { maps = maps; lists = old.lists }) both (IsJoinedFirst old map more keys 0)
joined_first old maps map more both keys good more_good there kept union = record {
  good = record { there = there; lists = λ k n e. by k n (value_in old.maps map k) refl (sym (union k) ∙ e) };
  keeps = keeps_grown old maps old.lists kept (λ n xs e. e);
  has = λ k m.
      let at : list_at old.lists (value_in maps both k) ≡ list_at old.lists (option_or (value_in old.maps map k) (value_in old.maps more k)) = ap (list_at old.lists) (union k) in (
        λ x. inl (subst (λ l. Contains l m) at x),
        λ h. elim h [ inl x ↦ subst (λ l. Contains l m) (sym at) x | inr x ↦ absurd (omega (arith, x.1)) ],
      );
}
  where
    by : (k n : ℕ) (o : Option ℕ) → value_in old.maps map k ≡ o → option_or o (value_in old.maps more k) ≡ Some n → IsList old.lists n
    by k n None is e = more_good.lists k n e
    by k n (Some v) is e = good.lists k n (is ∙ e)

pub joined_next : (old now new : Tables) (map more mid next : Map) (keys : List ℕ) (i key : ℕ) → IsGood old more → slice_get keys i ≡ Some key
    → IsMapOf old now mid (IsJoinedFirst old map more keys i) → IsMapOf now new next (λ k m. Contains (listed now mid k) m ⊎ ((k ≡ key) × Contains (listed now more k) m))
    → IsMapOf old new next (IsJoinedFirst old map more keys (i + 1))
joined_next old now new map more mid next keys i key good at so_far step = record {
  good = step.good;
  keeps = keeps_both old now new so_far.keeps step.keeps;
  has = λ k m. (
    λ x. elim ((step.has k m).0 x) [
      | inl y ↦ elim ((so_far.has k m).0 y) [ inl z ↦ inl z | inr z ↦ inr (z.0, (let lt = z.1 in omega (arith, lt)), z.2, z.3) ]
      | inr y ↦ inr (i, (omega arith), at ∙ ap Some (sym y.0), subst (λ l. Contains l m) (so_far.keeps.same more good k) y.1)
    ],
    λ h. elim h [
      | inl x ↦ (step.has k m).1 (inl ((so_far.has k m).1 (inl x)))
      | inr x ↦ elim (low_or_last x.0 i x.1) [
        | inl lt ↦ (step.has k m).1 (inl ((so_far.has k m).1 (inr (x.0, lt, x.2, x.3))))
        | inr last ↦
            let is : k ≡ key = let both : Some k ≡ Some key = sym x.2 ∙ ap (slice_get keys) last ∙ at in cc both in
            (step.has k m).1 (inr (is, subst (λ l. Contains l m) (sym (so_far.keeps.same more good k)) x.3))
      ]
    ],
  );
}

pub joined_all : (old new : Tables) (map more next : Map) (keys : List ℕ) (i : ℕ) → AreDiffering (value_in old.maps map) (value_in old.maps more) keys → length keys ≤ i
    → IsMapOf old new next (IsJoinedFirst old map more keys i) → IsMapOf old new next (λ k m. Contains (listed old map k) m ⊎ Contains (listed old more k) m)
joined_all old new map more next keys i are full =
    map_says old new next _ _
    (λ k m. (λ h. elim h [ inl x ↦ one k m (value_in old.maps map k) refl x | inr x ↦ inr x.3 ], λ h. first k m (value_in old.maps map k) (value_in old.maps more k) refl refl h))
  where
    one : (k m : ℕ) (o : Option ℕ) → value_in old.maps map k ≡ o → Contains (list_at old.lists (option_or o (value_in old.maps more k))) m
        → Contains (listed old map k) m ⊎ Contains (listed old more k) m
    one k m None is x = inr x
    one k m (Some v) is x = inl (subst (λ o. Contains (list_at old.lists o) m) (sym is) x)

    -- where the first map has a value, that is the union's
    mine : (k v : ℕ) → value_in old.maps map k ≡ Some v → option_or (value_in old.maps map k) (value_in old.maps more k) ≡ Some v
    mine k v is = ap (λ o. option_or o (value_in old.maps more k)) is

    first : (k m : ℕ) (a b : Option ℕ) → value_in old.maps map k ≡ a → value_in old.maps more k ≡ b → Contains (list_at old.lists a) m ⊎ Contains (list_at old.lists b) m
        → IsJoinedFirst old map more keys i k m
    first k m None b is also (inl x) = absurd (omega (arith, x.1))
    first k m None b is also (inr x) = inl (subst (λ o. Contains (list_at old.lists o) m) (sym (ap (λ o. option_or o (value_in old.maps more k)) is ∙ also)) x)
    first k m (Some v) b is also (inl x) = inl (subst (λ o. Contains (list_at old.lists o) m) (sym (mine k v is)) x)
    first k m (Some v) None is also (inr x) = absurd (omega (arith, x.1))
    first k m (Some v) (Some w) is also (inr x) = elim (cases_eq v w) [
      | inl same ↦ inl (subst (λ o. Contains (list_at old.lists o) m) (sym (mine k v is ∙ ap Some same)) x)
      | inr other ↦
          let at = contains_at keys k ((are.each k).1 (v, w, is, also, other)) in
          let lt = slice_get_within keys at.0 k at.1 in
          inr (at.0, (omega (arith, lt, full)), at.1, subst (λ o. Contains (list_at old.lists o) m) (sym also) x)
    ]

-- ---- all that a map lists

-- the numbers are those of the lists of the first i entries
abbrev pub AreOfFirst : List (List ℕ) → List (ℕ × ℕ) → ℕ → List ℕ → Type 0
AreOfFirst lists entries i xs = (m : ℕ) → Contains xs m ↔ ((j : ℕ) × (e : ℕ × ℕ) × (j < i) × (slice_get entries j ≡ Some e) × Contains (list_at lists (Some e.1)) m)

pub of_none : (lists : List (List ℕ)) (entries : List (ℕ × ℕ)) → AreOfFirst lists entries 0 []
of_none lists entries m = (λ h. absurd (omega (arith, h.1)), λ h. absurd (omega (arith, h.2)))

pub of_next : (lists : List (List ℕ)) (entries : List (ℕ × ℕ)) (i : ℕ) (e : ℕ × ℕ) (xs ys : List ℕ) → slice_get entries i ≡ Some e → ys ≡ list_at lists (Some e.1)
    → AreOfFirst lists entries i xs → AreOfFirst lists entries (i + 1) (xs ++ ys)
of_next lists entries i e xs ys at is so_far m = (
  λ h. elim (Contains-append_cases xs ys m h) [
    | inl x ↦ let y = (so_far m).0 x in (y.0, y.1, (let lt = y.2 in omega (arith, lt)), y.3, y.4)
    | inr y ↦ (i, e, (omega arith), at, subst (λ l. Contains l m) is y)
  ],
  λ h. elim (low_or_last h.0 i h.2) [
    | inl lt ↦ Contains-append_left xs ys m ((so_far m).1 (h.0, h.1, lt, h.3, h.4))
    | inr last ↦
        let same : h.1 ≡ e = let both : Some h.1 ≡ Some e = sym h.3 ∙ ap (slice_get entries) last ∙ at in cc both in
        Contains-append_right xs ys m (subst (λ l. Contains l m) (sym is) (subst (λ (y : ℕ × ℕ). Contains (list_at lists (Some y.1)) m) same h.4))
  ],
)

pub of_all : (t : Tables) (map : Map) (entries : List (ℕ × ℕ)) (i : ℕ) (xs : List ℕ) → AreEntries (value_in t.maps map) entries → length entries ≤ i → AreOfFirst t.lists entries i xs
    → (m : ℕ) → Contains xs m ↔ ((k : ℕ) × Contains (listed t map k) m)
of_all t map entries i xs are full so_far m = (
  λ h.
      let x = (so_far m).0 h in
      let is = (are.each x.1.0 x.1.1).0 (at_contains entries x.0 x.1 x.3) in
      (x.1.0, subst (λ l. Contains l m) (sym (ap (list_at t.lists) is)) x.4),
  λ h. there h.0 (value_in t.maps map h.0) refl h.1,
)
  where
    there : (k : ℕ) (o : Option ℕ) → value_in t.maps map k ≡ o → Contains (listed t map k) m → Contains xs m
    there k None e x = let h : Contains [] m = subst (λ o. Contains (list_at t.lists o) m) e x in absurd (omega (arith, h.1))
    there k (Some v) e x =
        let entry = contains_at entries (k, v) ((are.each k v).1 e) in
        let lt = slice_get_within entries entry.0 (k, v) entry.1 in
        (so_far m).1 (entry.0, (k, v), (omega (arith, lt, full)), entry.1, subst (λ o. Contains (list_at t.lists o) m) e x)

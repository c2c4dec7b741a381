-- Maps with the methods of some groups put in, and with the private ones taken out.
use Rattle.std.proofs.Common.{◌≡◌, ℕ, ◌+◌, ◌<◌, ◌≤◌, zero, suc, Bool, false, List, [], ◌∷◌, ◌++◌, Some, ◌⊎◌, inl, inr, ◌↔◌, refl, sym, ap, ◌∙◌, subst, length, take, drop, arith}
use Rattle.std.specs.Prelude.{◌==◌, ◌-◌, ◌/◌, slice_get, slice_index_or}
use Rattle.std.specs.List.{Contains}
use Rattle.std.proofs.lemmas.Bool.{cases_eq, true≢false}
use Rattle.std.proofs.lemmas.List.{take-append-drop}
use Rattle.std.proofs.lemmas.Option.{slice_get_within, slice_get-get_or}
use Rattle.std.proofs.lemmas.List.Elements.{Contains-append_left, Contains-append_right, Contains-append_cases}
use Rattle.class_world.specs.declared.world.World.{World}
use Rattle.class_world.specs.Signatures.{HaveOneSignatureIn}
use Rattle.class_world.specs.Inheritance.{IsPrivateMethod}
use Rattle.shared_maps.specs.declared.Map.{Map}
use Rattle.member_methods.specs.declared.tables.Tables.{Tables}
use Rattle.member_methods.specs.declared.own.Group.{Group}
use Rattle.member_methods.specs.Tables.{listed, IsGood, Keeps, IsMapOf}
use Rattle.member_methods.specs.Own.{IsInGroup, IsInFirst, AreSingle}
use Rattle.member_methods.specs.Signed.{AreOwnNamed, IsReplaced}
use Rattle.member_methods.specs.Made.{HaveMaps, IsListedIn, Lists, IsWithGroup, IsWithFirst, IsWithAll, AreApart}
use Rattle.member_methods.proofs.Maps.{keeps_both, map_says, map_there}
use Rattle.member_methods.proofs.Firsts.{low_or_last}

-- ---- the first groups

pub first_none : (groups : List Group) (q m : ℕ) → IsInFirst groups 0 q m → ⊥
first_none groups q m h = omega (arith, h.2)

pub first_more : (groups : List Group) (i q m : ℕ) → IsInFirst groups i q m → IsInFirst groups (i + 1) q m
first_more groups i q m h = (h.0, h.1, (let lt = h.2 in omega (arith, lt)), h.3, h.4, h.5)

pub first_last : (groups : List Group) (i : ℕ) (g : Group) (q m : ℕ) → slice_get groups i ≡ Some g → g.key ≡ q → Contains g.methods m → IsInFirst groups (i + 1) q m
first_last groups i g q m at key has = (i, g, (omega arith), at, key, has)

pub first_cases : (groups : List Group) (i : ℕ) (g : Group) (q m : ℕ) → slice_get groups i ≡ Some g → IsInFirst groups (i + 1) q m → IsInFirst groups i q m ⊎ ((g.key ≡ q) × Contains g.methods m)
first_cases groups i g q m at h = elim (low_or_last h.0 i h.2) [
  | inl lt ↦ inl (h.0, h.1, lt, h.3, h.4, h.5)
  | inr last ↦
      let is : h.1 ≡ g = let both : Some h.1 ≡ Some g = sym h.3 ∙ ap (slice_get groups) last ∙ at in cc both in
      inr (ap (λ (x : Group). x.key) (sym is) ∙ h.4, subst (λ (x : Group). Contains x.methods m) is h.5)
]

pub first_in : (groups : List Group) (i q m : ℕ) → IsInFirst groups i q m → IsInGroup groups q m
first_in groups i q m h = (h.0, h.1, h.3, h.4, h.5)

pub in_first : (groups : List Group) (i q m : ℕ) → length groups ≤ i → IsInGroup groups q m → IsInFirst groups i q m
in_first groups i q m full h = (h.0, h.1, (let lt = slice_get_within groups h.0 h.1 h.2 in omega (arith, lt, full)), h.2, h.3, h.4)

-- no earlier group has the key of a later one
not_before : (groups : List Group) (i : ℕ) (g : Group) (k m : ℕ) → AreSingle groups → slice_get groups i ≡ Some g → k ≡ g.key → IsInFirst groups i k m → ⊥
not_before groups i g k m single at same h =
    let one = single h.0 i h.1 g h.3 at (h.4 ∙ same) in
    let lt = h.2 in
    omega (arith, lt, one)

-- ---- with the groups' methods

module _ (w : World) (c keys : ℕ) (groups : List Group) (above : ℕ → ℕ → Type 0) (fits : AreApart w c keys groups above) where
  -- what a group is put to has its name
  pub group_named : (old now : Tables) (map : Map) (i : ℕ) (g : Group) → slice_get groups i ≡ Some g → IsMapOf old now map (IsWithFirst w c groups i above)
      → (m : ℕ) → Lists now map g.key m → AreOwnNamed w c g.methods m
  group_named old now map i g at h m has k own =
      let mine : IsInGroup groups g.key k = (i, g, at, refl, own) in
      elim ((h.has g.key m).0 has) [
        | inl first ↦ absurd (not_before groups i g g.key m fits.single at refl first)
        | inr high ↦ (fits.declared g.key k mine, fits.alike g.key k m mine high.0)
      ]

  pub with_none : (t : Tables) (map : Map) → IsGood t map → ((k m : ℕ) → Lists t map k m ↔ above k m) → IsMapOf t t map (IsWithFirst w c groups 0 above)
  with_none t map good is = map_there t map _ good (λ k m. (
    λ x. inr ((is k m).0 x, λ q o h. absurd (first_none groups q o h)),
    λ h. elim h [ inl x ↦ absurd (first_none groups k m x) | inr x ↦ (is k m).1 x.0 ],
  ))

  pub with_next : (old now new : Tables) (mid next : Map) (i : ℕ) (g : Group) → slice_get groups i ≡ Some g → IsMapOf old now mid (IsWithFirst w c groups i above)
      → IsMapOf now new next (IsWithGroup w c g (Lists now mid)) → IsMapOf old new next (IsWithFirst w c groups (i + 1) above)
  with_next old now new mid next i g at so_far step = record {
    good = step.good;
    keeps = keeps_both old now new so_far.keeps step.keeps;
    has = λ k m. (λ x. forth k m ((step.has k m).0 x), λ h. (step.has k m).1 (back k m (cases_eq k g.key) h));
  }
    where
      apart : (k m q o : ℕ) → above k m → (k ≡ g.key → ⊥) → g.key ≡ q → Contains g.methods o → HaveOneSignatureIn w c o m → ⊥
      apart k m q o high other key own one = other (sym (fits.apart g.key k o m (i, g, at, refl, own) high one))

      forth : (k m : ℕ) → IsWithGroup w c g (Lists now mid) k m → IsWithFirst w c groups (i + 1) above k m
      forth k m (inl (same, inl own)) = inl (first_last groups i g k m at (sym same) own)
      forth k m (inl (same, inr (was, none))) = elim ((so_far.has k m).0 was) [
        | inl first ↦ inl (first_more groups i k m first)
        | inr high ↦ inr (high.0, λ q o h one. elim (first_cases groups i g q o at h) [ inl early ↦ high.1 q o early one | inr last ↦ none o last.1 one ])
      ]
      forth k m (inr (other, was)) = elim ((so_far.has k m).0 was) [
        | inl first ↦ inl (first_more groups i k m first)
        | inr high ↦ inr (high.0, λ q o h one. elim (first_cases groups i g q o at h) [ inl early ↦ high.1 q o early one | inr last ↦ apart k m q o high.0 other last.0 last.1 one ])
      ]

      back : (k m : ℕ) → (k ≡ g.key) ⊎ (k ≡ g.key → ⊥) → IsWithFirst w c groups (i + 1) above k m → IsWithGroup w c g (Lists now mid) k m
      back k m (inl same) (inl first) = elim (first_cases groups i g k m at first) [
        | inl early ↦ absurd (not_before groups i g k m fits.single at same early)
        | inr last ↦ inl (same, inl last.1)
      ]
      back k m (inl same) (inr (high, none)) =
          inl (same, inr ((so_far.has k m).1 (inr (high, λ q o h. none q o (first_more groups i q o h))), λ o own. none g.key o (first_last groups i g g.key o at refl own)))
      back k m (inr other) (inl first) = elim (first_cases groups i g k m at first) [
        | inl early ↦ inr (other, (so_far.has k m).1 (inl early))
        | inr last ↦ absurd (other (sym last.0))
      ]
      back k m (inr other) (inr (high, none)) = inr (other, (so_far.has k m).1 (inr (high, λ q o h. none q o (first_more groups i q o h))))

  pub with_all : (old new : Tables) (map : Map) (i : ℕ) → length groups ≤ i → IsMapOf old new map (IsWithFirst w c groups i above) → IsMapOf old new map (IsWithAll w c groups above)
  with_all old new map i full = map_says old new map _ _ (λ k m. (
    λ h. elim h [ inl x ↦ inl (first_in groups i k m x) | inr x ↦ inr (x.0, λ q o own. x.1 q o (in_first groups i q o full own)) ],
    λ h. elim h [ inl x ↦ inl (in_first groups i k m full x) | inr x ↦ inr (x.0, λ q o own. x.1 q o (first_in groups i q o own)) ],
  ))

-- ---- without private methods

-- what `members` lists but for the private methods of the first i groups
abbrev pub IsOpenFirst : World → List Group → ℕ → (ℕ → ℕ → Type 0) → ℕ → ℕ → Type 0
IsOpenFirst w groups i members k m = members k m × (IsPrivateMethod w m → IsInFirst groups i k m → ⊥)

module _ (w : World) (groups : List Group) (members : ℕ → ℕ → Type 0) (single : AreSingle groups) (private : (k m : ℕ) → members k m → IsPrivateMethod w m → IsInGroup groups k m) where
  -- a group that has a private method
  pub open_next : (old now new : Tables) (mid next : Map) (i : ℕ) (g : Group) (open' : List ℕ) → slice_get groups i ≡ Some g → IsMapOf old now mid (IsOpenFirst w groups i members)
      → ((m : ℕ) → Contains open' m ↔ (Contains (listed now mid g.key) m × (IsPrivateMethod w m → ⊥)))
      → IsMapOf now new next (λ k m. ((k ≡ g.key) × Contains open' m) ⊎ ((k ≡ g.key → ⊥) × Contains (listed now mid k) m)) → IsMapOf old new next (IsOpenFirst w groups (i + 1) members)
  open_next old now new mid next i g open' at so_far opens step = record {
    good = step.good;
    keeps = keeps_both old now new so_far.keeps step.keeps;
    has = λ k m. (λ x. forth k m ((step.has k m).0 x), λ h. (step.has k m).1 (back k m (cases_eq k g.key) h));
  }
    where
      forth : (k m : ℕ) → ((k ≡ g.key) × Contains open' m) ⊎ ((k ≡ g.key → ⊥) × Contains (listed now mid k) m) → IsOpenFirst w groups (i + 1) members k m
      forth k m (inl (same, x)) =
          let o = (opens m).0 x in
          let was = (so_far.has k m).0 (subst (λ q. Contains (listed now mid q) m) (sym same) o.0) in
          (was.0, λ p h. o.1 p)
      forth k m (inr (other, x)) =
          let was = (so_far.has k m).0 x in
          (was.0, λ p h. elim (first_cases groups i g k m at h) [ inl early ↦ was.1 p early | inr last ↦ other (sym last.0) ])

      back : (k m : ℕ) → (k ≡ g.key) ⊎ (k ≡ g.key → ⊥) → IsOpenFirst w groups (i + 1) members k m → ((k ≡ g.key) × Contains open' m) ⊎ ((k ≡ g.key → ⊥) × Contains (listed now mid k) m)
      back k m (inl same) h =
          let not : IsPrivateMethod w m → ⊥ = λ p.
          let own = private k m h.0 p in
          let last = single own.0 i own.1 g own.2 at (own.3 ∙ same) in
          h.1 p (own.0, own.1, (omega (arith, last)), own.2, own.3, own.4) in
          let was : Contains (listed now mid k) m = (so_far.has k m).1 (h.0, λ p f. h.1 p (first_more groups i k m f)) in
          inl (same, (opens m).1 (subst (λ q. Contains (listed now mid q) m) same was, not))
      back k m (inr other) h = inr (other, (so_far.has k m).1 (h.0, λ p f. h.1 p (first_more groups i k m f)))

  -- one that has none
  pub open_skip : (old now : Tables) (mid : Map) (i : ℕ) (g : Group) → slice_get groups i ≡ Some g → IsMapOf old now mid (IsOpenFirst w groups i members)
      → ((m : ℕ) × Contains g.methods m × IsPrivateMethod w m → ⊥) → IsMapOf old now mid (IsOpenFirst w groups (i + 1) members)
  open_skip old now mid i g at so_far none = map_says old now mid _ _ (λ k m. (
    λ h. (h.0, λ p f. elim (first_cases groups i g k m at f) [ inl early ↦ h.1 p early | inr last ↦ none (m, last.1, p) ]),
    λ h. (h.0, λ p f. h.1 p (first_more groups i k m f)),
  )) so_far

  pub open_all : (old new : Tables) (map : Map) (i : ℕ) → length groups ≤ i → IsMapOf old new map (IsOpenFirst w groups i members) → IsMapOf old new map (λ k m. members k m × (IsPrivateMethod w m → ⊥))
  open_all old new map i full = map_says old new map _ _ (λ k m. (
    λ h. (h.0, λ p. h.1 p (in_first groups i k m full (private k m h.0 p))),
    λ h. (h.0, λ p f. h.1 p),
  ))

-- ---- what several types hand down

-- one type alone
pub listed_alone : (t : Tables) (maps : List Map) (s : ℕ) (above : List ℕ) (map : Map) → above ≡ s ∷ [] → slice_get maps s ≡ Some map → IsGood t map → IsMapOf t t map (IsListedIn t maps above)
listed_alone t maps s above map is at good = map_there t map _ good (λ k m. (
  λ h. (s, subst (λ l. Contains l s) (sym is) (0, omega arith, refl), map, at, h),
  λ h.
      let same : h.0 ≡ s = only h.0 (subst (λ l. Contains l h.0) is h.1) in
      let one : h.2 ≡ map = let both : Some h.2 ≡ Some map = sym h.3 ∙ ap (slice_get maps) same ∙ at in cc both in
      subst (λ x. Contains (listed t x k) m) one h.4,
))
  where
    only : (x : ℕ) → Contains (s ∷ []) x → x ≡ s
    only x (zero, lt, e) = sym e
    only x (suc k, lt, e) = absurd (omega (arith, lt))

pub halves : (above left right : List ℕ) (mid : ℕ) → left ≡ take mid above → right ≡ drop mid above → above ≡ left ++ right
halves above left right mid front back = sym (ap (λ l. l ++ right) front ∙ ap (λ l. take mid above ++ l) back ∙ take-append-drop mid above)

-- each half is shorter, where there are two types or more
pub two_or_more : (first : ℕ) (others above : List ℕ) (empty : Bool) → above ≡ first ∷ others → empty ≡ (length others == 0) → empty ≡ false → 1 < length above
two_or_more first [] above empty is same full = absurd (true≢false (sym same ∙ full))
two_or_more first (x ∷ xs) above empty is same full = let size : length above ≡ suc (suc (length xs)) = ap length is in omega (arith, size)

pub left_shorter : (n l : ℕ) → 1 < n → l ≡ n - n / 2 → l < n
left_shorter n l two is = omega (arith, two, is)

pub right_shorter : (n r mid : ℕ) → 1 < n → mid ≡ n - n / 2 → r + mid ≡ n → r < n
right_shorter n r mid two is all = omega (arith, two, is, all)

-- each half has its maps
pub have_left : (t : Tables) (maps : List Map) (above left right : List ℕ) → above ≡ left ++ right → HaveMaps t maps above → HaveMaps t maps left
have_left t maps above left right is have s h = have s (subst (λ l. Contains l s) (sym is) (Contains-append_left left right s h))

pub have_right : (old now : Tables) (maps : List Map) (above left right : List ℕ) → above ≡ left ++ right → Keeps old now → HaveMaps old maps above → HaveMaps now maps right
have_right old now maps above left right is keeps have s h =
    let x = have s (subst (λ l. Contains l s) (sym is) (Contains-append_right left right s h)) in
    (x.0, x.1, keeps.good x.0 x.2)

-- both halves
pub listed_halves : (old one two new : Tables) (maps : List Map) (above left right : List ℕ) (a b map : Map) → above ≡ left ++ right → HaveMaps old maps above
    → IsMapOf old one a (IsListedIn old maps left) → IsMapOf one two b (IsListedIn one maps right) → IsMapOf two new map (λ k m. Contains (listed two a k) m ⊎ Contains (listed two b k) m)
    → IsMapOf old new map (IsListedIn old maps above)
listed_halves old one two new maps above left right a b map is have first second both = record {
  good = both.good;
  keeps = keeps_both old one new first.keeps (keeps_both one two new second.keeps both.keeps);
  has = λ k m. (
    λ x. elim ((both.has k m).0 x) [
      | inl y ↦
          let h = (first.has k m).0 (subst (λ l. Contains l m) (second.keeps.same a first.good k) y) in
          (h.0, subst (λ l. Contains l h.0) (sym is) (Contains-append_left left right h.0 h.1), h.2, h.3, h.4)
      | inr y ↦
          let h = (second.has k m).0 y in
          let up = subst (λ l. Contains l h.0) (sym is) (Contains-append_right left right h.0 h.1) in
          (h.0, up, h.2, h.3, subst (λ l. Contains l m) (first.keeps.same h.2 (good h.0 up h.2 h.3) k) h.4)
    ],
    λ h. (both.has k m).1 (elim (Contains-append_cases left right h.0 (subst (λ l. Contains l h.0) is h.1)) [
      | inl x ↦ inl (subst (λ l. Contains l m) (sym (second.keeps.same a first.good k)) ((first.has k m).1 (h.0, x, h.2, h.3, h.4)))
      | inr x ↦ inr ((second.has k m).1 (h.0, x, h.2, h.3, subst (λ l. Contains l m) (sym (first.keeps.same h.2 (good h.0 h.1 h.2 h.3) k)) h.4))
    ]),
  );
}
  where
    good : (s : ℕ) → Contains above s → (x : Map) → slice_get maps s ≡ Some x → IsGood old x
    good s up x at =
        let h = have s up in
        let same : h.0 ≡ x = let both : Some h.0 ≡ Some x = sym h.1 ∙ at in cc both in
        subst (IsGood old) same h.2

-- ---- one group, as the code puts it

pub with_group_says : (w : World) (c : ℕ) (g : Group) (old : Tables) (map : Map) (above own members all : List ℕ) → above ≡ listed old map g.key → own ≡ g.methods → all ≡ members ++ own
    → ((m : ℕ) → Contains members m ↔ (Contains above m × (IsReplaced w c own m → ⊥)))
    → (k m : ℕ) → (((k ≡ g.key) × Contains all m) ⊎ ((k ≡ g.key → ⊥) × Contains (listed old map k) m)) ↔ IsWithGroup w c g (Lists old map) k m
with_group_says w c g old map above own members all is_above is_own is_all kept k m = (
  λ h. elim h [
    | inl x ↦ inl (
      x.0,
      elim (Contains-append_cases members own m (subst (λ l. Contains l m) is_all x.1)) [
        | inl y ↦
            let z = (kept m).0 y in
            inr (subst (λ l. Contains l m) (at x.0) z.0, λ o has one. z.1 (o, subst (λ l. Contains l o) (sym is_own) has, one))
        | inr y ↦ inl (subst (λ l. Contains l m) is_own y)
      ],
    )
    | inr x ↦ inr x
  ],
  λ h. elim h [
    | inl x ↦ inl (
      x.0,
      subst (λ l. Contains l m) (sym is_all) (elim x.1 [
        | inl y ↦ Contains-append_right members own m (subst (λ l. Contains l m) (sym is_own) y)
        | inr y ↦ Contains-append_left members own m ((kept m).1 (subst (λ l. Contains l m) (sym (at x.0)) y.0, λ r. y.1 r.0 (subst (λ l. Contains l r.0) is_own r.1) r.2))
      ]),
    )
    | inr x ↦ inr x
  ],
)
  where
    at : k ≡ g.key → above ≡ listed old map k
    at same = is_above ∙ ap (listed old map) (sym same)

-- ---- the list of the types above

pub first_above : (first : ℕ) (others above : List ℕ) → above ≡ first ∷ others → Contains above first
first_above first others above is = subst (λ l. Contains l first) (sym is) (0, omega arith, refl)

pub map_read : (t : Tables) (maps : List Map) (s : ℕ) (d : Map) → (map : Map) × (slice_get maps s ≡ Some map) × IsGood t map → (slice_get maps s ≡ Some (slice_index_or maps s d)) × IsGood t (slice_index_or maps s d)
map_read t maps s d h =
    let at = slice_get-get_or maps s d (slice_get_within maps s h.0 h.1) in
    let same : h.0 ≡ slice_index_or maps s d = let both : Some h.0 ≡ Some (slice_index_or maps s d) = sym h.1 ∙ at in cc both in
    (at, subst (IsGood t) same h.2)

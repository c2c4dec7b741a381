-- The methods of types, by owner and in groups of one key.
use Rattle.std.proofs.Common.{◌≡◌, ℕ, ◌+◌, ◌<◌, ◌≤◌, true, false, cond, nat_eq, List, [], ◌∷◌, ◌++◌, Option, Some, None, ◌⊎◌, inl, inr, ◌↔◌, refl, sym, ap, ◌∙◌, subst, length, arith}
use Rattle.std.specs.Prelude.{slice_get, slice_set}
use Rattle.std.specs.List.{Contains}
use Rattle.std.proofs.lemmas.Bool.{cases_eq, eq-eqb, ne_eqb, cond-true, cond-false}
use Rattle.std.proofs.lemmas.List.Elements.{Contains-append_left, Contains-push, Contains-push_cases}
use Rattle.std.proofs.lemmas.Option.{slice_get_within}
use Rattle.class_world.specs.declared.world.World.{World}
use Rattle.class_world.specs.declared.world.MethodInfo.{MethodInfo}
use Rattle.class_world.specs.Inheritance.{DeclaresMethod}
use Rattle.class_world.proofs.Ends.{at_last, at_first, first_or_end}
use Rattle.class_world.proofs.Words.{set_here, set_there}
use Rattle.member_methods.specs.declared.own.Group.{Group}
use Rattle.member_methods.specs.Own.{IsInGroup, HasKey, AreGroups, AreOwn}
use Rattle.member_methods.proofs.Firsts.{Among, among_last, among_more, among_cases, among_all, among_contains, low_or_last}

-- a key's place is that of the group with the key
abbrev pub ArePlaced : (ℕ → Option ℕ) → List Group → Type 0
ArePlaced find groups = (q i : ℕ) → (find q ≡ Some i) ↔ ((g : Group) × (slice_get groups i ≡ Some g) × (g.key ≡ q))

-- a method added to a group that is there
module _ (find : ℕ → Option ℕ) (groups new : List Group) (place key m : ℕ) (g h : Group) (placed : ArePlaced find groups) (at : slice_get groups place ≡ Some g) (has_key : g.key ≡ key)
    (made : new ≡ slice_set groups place h) (same_key : h.key ≡ g.key) (more : h.methods ≡ g.methods ++ m ∷ []) where
  here : slice_get new place ≡ Some h
  here = ap (λ l. slice_get l place) made ∙ set_here groups place h (slice_get_within groups place g at)

  there : (i : ℕ) → (place ≡ i → ⊥) → slice_get new i ≡ slice_get groups i
  there i other = ap (λ l. slice_get l i) made ∙ set_there groups place i h other

  pub placed_set : ArePlaced find new
  placed_set q i = elim (cases_eq place i) [
    | inl same ↦ (
      λ e.
          let k = (placed q i).0 e in
          let is : k.0 ≡ g = let both : Some k.0 ≡ Some g = sym k.1 ∙ ap (slice_get groups) (sym same) ∙ at in cc both in
          (h, ap (slice_get new) (sym same) ∙ here, same_key ∙ ap (λ (x : Group). x.key) (sym is) ∙ k.2),
      λ k.
          let is : h ≡ k.0 = let both : Some h ≡ Some k.0 = sym here ∙ ap (slice_get new) same ∙ k.1 in cc both in
          (placed q i).1 (g, ap (slice_get groups) (sym same) ∙ at, sym same_key ∙ ap (λ (x : Group). x.key) is ∙ k.2),
    )
    | inr other ↦ (
      λ e. let k = (placed q i).0 e in (k.0, there i other ∙ k.1, k.2),
      λ k. (placed q i).1 (k.0, sym (there i other) ∙ k.1, k.2),
    )
  ]

  pub has_set : (q n : ℕ) → IsInGroup new q n ↔ (IsInGroup groups q n ⊎ ((q ≡ key) × (n ≡ m)))
  has_set q n = (
    λ k. elim (cases_eq place k.0) [
      | inl same ↦
          let is : k.1 ≡ h = let both : Some k.1 ≡ Some h = sym k.2 ∙ ap (slice_get new) (sym same) ∙ here in cc both in
          let its_key : g.key ≡ q = sym same_key ∙ ap (λ (x : Group). x.key) (sym is) ∙ k.3 in
          elim (Contains-push_cases g.methods m n (subst (λ l. Contains l n) (ap (λ (x : Group). x.methods) is ∙ more) k.4)) [
            | inl old ↦ inl (place, g, at, its_key, old)
            | inr last ↦ inr (sym its_key ∙ has_key, sym last)
          ]
      | inr other ↦ inl (k.0, k.1, sym (there k.0 other) ∙ k.2, k.3, k.4)
    ],
    λ k. elim k [
      | inl old ↦ elim (cases_eq place old.0) [
        | inl same ↦
            let is : old.1 ≡ g = let both : Some old.1 ≡ Some g = sym old.2 ∙ ap (slice_get groups) (sym same) ∙ at in cc both in
            let kept : Contains g.methods n = subst (λ (x : Group). Contains x.methods n) is old.4 in
            (place, h, here, same_key ∙ ap (λ (x : Group). x.key) (sym is) ∙ old.3, subst (λ l. Contains l n) (sym more) (Contains-append_left g.methods (m ∷ []) n kept))
        | inr other ↦ (old.0, old.1, there old.0 other ∙ old.2, old.3, old.4)
      ]
      | inr new' ↦ (place, h, here, same_key ∙ has_key ∙ sym new'.0, subst (λ l. Contains l n) (sym more) (subst (Contains (g.methods ++ m ∷ [])) (sym new'.1) (Contains-push g.methods m)))
    ],
  )

  -- its key was there
  pub keys_set : (i : ℕ) (x : Group) → slice_get new i ≡ Some x → (x.key ≡ key) ⊎ HasKey groups x.key
  keys_set i x e = elim (cases_eq place i) [
    | inl same ↦
        let is : x ≡ h = let both : Some x ≡ Some h = sym e ∙ ap (slice_get new) (sym same) ∙ here in cc both in
        inl (ap (λ (y : Group). y.key) is ∙ same_key ∙ has_key)
    | inr other ↦ inr (i, x, sym (there i other) ∙ e, refl)
  ]

-- a new group
module _ (old find : ℕ → Option ℕ) (groups new : List Group) (key m : ℕ) (g : Group) (placed : ArePlaced old groups) (none : old key ≡ None)
    (puts : (q : ℕ) → find q ≡ cond (nat_eq key q) (Some (length groups)) (old q)) (made : new ≡ groups ++ g ∷ []) (has_key : g.key ≡ key) (one : g.methods ≡ m ∷ []) where
  last_at : slice_get new (length groups) ≡ Some g
  last_at = ap (λ l. slice_get l (length groups)) made ∙ at_last groups g

  first_at : (i : ℕ) (x : Group) → slice_get groups i ≡ Some x → slice_get new i ≡ Some x
  first_at i x e = ap (λ l. slice_get l i) made ∙ at_first groups g x i e

  cases_at : (i : ℕ) (x : Group) → slice_get new i ≡ Some x → (slice_get groups i ≡ Some x) ⊎ ((x ≡ g) × (i ≡ length groups))
  cases_at i x e = first_or_end groups g x i (sym (ap (λ l. slice_get l i) made) ∙ e)

  put_here : (q : ℕ) → key ≡ q → find q ≡ Some (length groups)
  put_here q same = puts q ∙ cond-true (nat_eq key q) (Some (length groups)) (old q) (eq-eqb key q same)

  put_there : (q : ℕ) → (key ≡ q → ⊥) → find q ≡ old q
  put_there q other = puts q ∙ cond-false (nat_eq key q) (Some (length groups)) (old q) (ne_eqb key q other)

  pub placed_push : ArePlaced find new
  placed_push q i = elim (cases_eq key q) [
    | inl same ↦ (
      λ e.
          let is : i ≡ length groups = let both : Some i ≡ Some (length groups) = sym e ∙ put_here q same in cc both in
          (g, ap (slice_get new) is ∙ last_at, has_key ∙ same),
      λ k. elim (cases_at i k.0 k.1) [
        | inl was ↦ let never : Some i ≡ None = sym ((placed q i).1 (k.0, was, k.2)) ∙ ap old (sym same) ∙ none in absurd (cc never)
        | inr last ↦ put_here q same ∙ ap Some (sym last.1)
      ],
    )
    | inr other ↦ (
      λ e. let k = (placed q i).0 (sym (put_there q other) ∙ e) in (k.0, first_at i k.0 k.1, k.2),
      λ k. elim (cases_at i k.0 k.1) [
        | inl was ↦ put_there q other ∙ (placed q i).1 (k.0, was, k.2)
        | inr last ↦ absurd (other (sym has_key ∙ ap (λ (x : Group). x.key) (sym last.0) ∙ k.2))
      ],
    )
  ]

  pub has_push : (q n : ℕ) → IsInGroup new q n ↔ (IsInGroup groups q n ⊎ ((q ≡ key) × (n ≡ m)))
  has_push q n = (
    λ k. elim (cases_at k.0 k.1 k.2) [
      | inl was ↦ inl (k.0, k.1, was, k.3, k.4)
      | inr last ↦ inr (sym k.3 ∙ ap (λ (x : Group). x.key) last.0 ∙ has_key, in_one (subst (λ l. Contains l n) (ap (λ (x : Group). x.methods) last.0 ∙ one) k.4))
    ],
    λ k. elim k [
      | inl was ↦ (was.0, was.1, first_at was.0 was.1 was.2, was.3, was.4)
      | inr new' ↦ (length groups, g, last_at, has_key ∙ sym new'.0, subst (λ l. Contains l n) (sym one) (0, omega arith, sym new'.1))
    ],
  )
    where
      in_one : Contains (m ∷ []) n → n ≡ m
      in_one h = elim (Contains-push_cases [] m n h) [ inl never ↦ absurd (omega (arith, never.1)) | inr same ↦ sym same ]

  pub keys_push : (i : ℕ) (x : Group) → slice_get new i ≡ Some x → (x.key ≡ key) ⊎ HasKey groups x.key
  keys_push i x e = elim (cases_at i x e) [
    | inl was ↦ inr (i, x, was, refl)
    | inr last ↦ inl (ap (λ (y : Group). y.key) last.0 ∙ has_key)
  ]

-- ---- all methods of a list in groups

-- each group's key is a method's
abbrev pub HaveKeys : List ℕ → List Group → Type 0
HaveKeys keyed groups = (i : ℕ) (g : Group) → slice_get groups i ≡ Some g → (m : ℕ) × (slice_get keyed m ≡ Some g.key)

pub keys_next : (keyed : List ℕ) (groups new : List Group) (m key : ℕ) → HaveKeys keyed groups → slice_get keyed m ≡ Some key
    → ((i : ℕ) (g : Group) → slice_get new i ≡ Some g → (g.key ≡ key) ⊎ HasKey groups g.key) → HaveKeys keyed new
keys_next keyed groups new m key have is keys i g at = elim (keys i g at) [
  | inl here ↦ (m, is ∙ ap Some (sym here))
  | inr was ↦ let k = have was.0 was.1 was.2 in (k.0, k.1 ∙ ap Some was.3)
]

abbrev pub GroupsFirst : List ℕ → List ℕ → List Group → ℕ → Type 0
GroupsFirst keyed own groups i = (q n : ℕ) → IsInGroup groups q n ↔ (Among own i n × (slice_get keyed n ≡ Some q))

pub groups_next : (keyed own : List ℕ) (groups new : List Group) (i m key : ℕ) → GroupsFirst keyed own groups i → slice_get own i ≡ Some m → slice_get keyed m ≡ Some key
    → ((q n : ℕ) → IsInGroup new q n ↔ (IsInGroup groups q n ⊎ ((q ≡ key) × (n ≡ m)))) → GroupsFirst keyed own new (i + 1)
groups_next keyed own groups new i m key h at is adds q n = (
  λ k. elim ((adds q n).0 k) [
    | inl was ↦ let o = (h q n).0 was in (among_more own i n o.0, o.1)
    | inr new' ↦ (subst (Among own (i + 1)) (sym new'.1) (among_last own i m at), ap (slice_get keyed) new'.1 ∙ is ∙ ap Some (sym new'.0))
  ],
  λ k. elim (among_cases own i n m at k.0) [
    | inl old ↦ (adds q n).1 (inl ((h q n).1 (old, k.1)))
    | inr same ↦ (adds q n).1 (inr ((let both : Some key ≡ Some q = sym is ∙ ap (slice_get keyed) (sym same) ∙ k.1 in let e : key ≡ q = cc both in sym e), same))
  ],
)

pub groups_all : (find : ℕ → Option ℕ) (keyed own : List ℕ) (groups : List Group) (i : ℕ) → length own ≤ i → ArePlaced find groups → HaveKeys keyed groups → GroupsFirst keyed own groups i → AreGroups keyed own groups
groups_all find keyed own groups i full placed keys h = record {
  inside = keys;
  has = λ q n. (
    λ k. let o = (h q n).0 k in (among_contains own i n o.0, o.1),
    λ k. (h q n).1 (among_all own i n full k.0, k.1),
  );
  single = λ a b x y at_a at_b same.
      let one = (placed x.key a).1 (x, at_a, refl) in
      let two = (placed x.key b).1 (y, at_b, sym same) in
      let both : Some a ≡ Some b = sym one ∙ two in
      cc both;
}

-- ---- the methods of each type

-- the lists have those below the number i
abbrev pub AreOwnFirst : World → List (List ℕ) → ℕ → Type 0
AreOwnFirst w own i = (c : ℕ) (ms : List ℕ) → slice_get own c ≡ Some ms → (m : ℕ) → Contains ms m ↔ ((m < i) × DeclaresMethod w c m)

module _ (w : World) (own : List (List ℕ)) (i : ℕ) (info : MethodInfo) (h : AreOwnFirst w own i) (at : slice_get w.methods i ≡ Some info) where
  -- a method that no list takes
  pub own_skip : (info.constructor ≡ true) ⊎ (length own ≤ info.owner) → AreOwnFirst w own (i + 1)
  own_skip why c ms row m = (
    λ x. let o = (h c ms row m).0 x in ((let lt = o.0 in omega (arith, lt)), o.1),
    λ o. elim (low_or_last m i o.0) [
      | inl lt ↦ (h c ms row m).1 (lt, o.1)
      | inr last ↦
          let is : o.1.0 ≡ info = let both : Some o.1.0 ≡ Some info = sym o.1.1.0 ∙ ap (slice_get w.methods) last ∙ at in cc both in
          absurd (elim why [
            | inl makes ↦ let never : true ≡ false = sym makes ∙ ap (λ (x : MethodInfo). x.constructor) (sym is) ∙ o.1.1.1 in cc never
            | inr past ↦
                let lt = slice_get_within own c ms row in
                let owner : info.owner ≡ c = ap (λ (x : MethodInfo). x.owner) (sym is) ∙ o.1.2 in
                omega (arith, lt, owner, past)
          ])
    ],
  )

  -- one that its owner's list takes
  pub own_push : (new : List (List ℕ)) (old : List ℕ) → info.constructor ≡ false → slice_get own info.owner ≡ Some old → new ≡ slice_set own info.owner (old ++ i ∷ []) → AreOwnFirst w new (i + 1)
  own_push new old plain row made c ms there m = elim (cases_eq info.owner c) [
    | inl same ↦
        let is : ms ≡ old ++ i ∷ [] =
        let both : Some ms ≡ Some (old ++ i ∷ []) = sym there ∙ ap (slice_get new) (sym same) ∙ ap (λ l. slice_get l info.owner) made
        ∙ set_here own info.owner (old ++ i ∷ []) (slice_get_within own info.owner old row) in
        cc both in
        let was = h c old (ap (slice_get own) (sym same) ∙ row) m in
        subst (λ l. Contains l m ↔ ((m < i + 1) × DeclaresMethod w c m)) (sym is) (
          λ x. elim (Contains-push_cases old i m x) [
            | inl early ↦ let o = was.0 early in ((let lt = o.0 in omega (arith, lt)), o.1)
            | inr last ↦ ((omega (arith, last)), subst (DeclaresMethod w c) last (info, (at, plain), same))
          ],
          λ o. elim (low_or_last m i o.0) [
            | inl lt ↦ Contains-append_left old (i ∷ []) m (was.1 (lt, o.1))
            | inr last ↦ subst (Contains (old ++ i ∷ [])) (sym last) (Contains-push old i)
          ],
        )
    | inr other ↦
        let old_row : slice_get own c ≡ Some ms = sym (ap (λ l. slice_get l c) made ∙ set_there own info.owner c (old ++ i ∷ []) other) ∙ there in (
          λ x. let o = (h c ms old_row m).0 x in ((let lt = o.0 in omega (arith, lt)), o.1),
          λ o. elim (low_or_last m i o.0) [
            | inl lt ↦ (h c ms old_row m).1 (lt, o.1)
            | inr last ↦
                let is : o.1.0 ≡ info = let both : Some o.1.0 ≡ Some info = sym o.1.1.0 ∙ ap (slice_get w.methods) last ∙ at in cc both in
                absurd (other (ap (λ (x : MethodInfo). x.owner) (sym is) ∙ o.1.2))
          ],
        )
  ]

pub own_none : (w : World) (own : List (List ℕ)) → ((c : ℕ) (ms : List ℕ) → slice_get own c ≡ Some ms → ms ≡ []) → AreOwnFirst w own 0
own_none w own empty c ms row m = (
  λ x. let k : Contains [] m = subst (λ l. Contains l m) (empty c ms row) x in absurd (omega (arith, k.1)),
  λ o. absurd (omega (arith, o.0)),
)

pub own_all : (w : World) (own : List (List ℕ)) (limit i : ℕ) → length own ≡ limit → length w.methods ≤ i → AreOwnFirst w own i → AreOwn w limit own
own_all w own limit i size full h = record {
  size = size;
  each = λ c ms row m. (
    λ x. ((h c ms row m).0 x).1,
    λ d. (h c ms row m).1 ((let lt = slice_get_within w.methods m d.0 d.1.0 in omega (arith, lt, full)), d),
  );
}

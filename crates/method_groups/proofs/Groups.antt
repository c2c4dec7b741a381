-- Groups made from labels.
use Rattle.std.proofs.Common.{◌≡◌, ℕ, zero, suc, ◌+◌, ◌<◌, ◌≤◌, true, false, List, [], ◌∷◌, ◌++◌, Option, Some, None, ◌⊎◌, inl, inr, ◌↔◌, refl, sym, ap, ◌∙◌, subst, length, IsPermutation, arith}
use Rattle.std.specs.Prelude.{slice_get, slice_set, replicate}
use Rattle.std.specs.List.{Contains}
use Rattle.std.specs.List.Sorted.{IsStrictlyIncreasing}
use Rattle.std.proofs.lemmas.Option.{slice_get_within}
use Rattle.std.proofs.lemmas.List.Sorted.{Contains-permutation, IsPermutation-sym}
use Rattle.class_world.proofs.Ends.{at_last, at_first}
use Rattle.class_world.proofs.Words.{set_here, set_there, same_or_other}
use Rattle.class_world.specs.declared.world.World.{World}
use Rattle.class_world.specs.declared.world.MethodInfo.{MethodInfo}
use Rattle.class_world.specs.Inheritance.{IsGrouped}
use Rattle.method_groups.specs.declared.overloads.Overloads.{Overloads}
use Rattle.method_groups.specs.declared.constructors.Shape.{Shape}
use Rattle.method_groups.specs.declared.labels.Row.{Row}
use Rattle.method_groups.specs.declared.labels.Labels.{Labels}
use Rattle.method_groups.specs.declared.MethodGroups.{MethodGroups}
use Rattle.method_groups.specs.declared.made.Made.{Made}
use Rattle.method_groups.specs.Beside.{AreBeside}
use Rattle.method_groups.specs.Labels.{StandsFor, last, rest, AreAllLabels, AreMembers, IsAddition, IsOverload, IsLabelled, Passes}
use Rattle.method_groups.specs.Constructors.{IsConstructor, shape_of}
use Rattle.method_groups.specs.Groups.{AreMade, HasList, KeepsLists, HoldsConstructors, HoldsGroups}
use Rattle.method_groups.proofs.Firsts.{contains_at, low_or_last}
use Rattle.method_groups.proofs.Rows.{stands_cases, stands_above}
use Rattle.method_groups.proofs.Beside.{beside_first, beside_grouped, grouped_cases, constructor_group}

pub list_kept : (old new : List (List ℕ)) (p : ℕ) (P : ℕ → Type 0) → KeepsLists old new → HasList old p P → HasList new p P
list_kept old new p P kept h = record { list = h.list; at = kept p h.list h.at; has = h.has; ascending = h.ascending }

pub list_says : (lists : List (List ℕ)) (p : ℕ) (P Q : ℕ → Type 0) → ((k : ℕ) → P k ↔ Q k) → HasList lists p P → HasList lists p Q
list_says lists p P Q same h = record { list = h.list; at = h.at; has = λ k. (λ x. (same k).0 ((h.has k).0 x), λ x. (h.has k).1 ((same k).1 x)); ascending = h.ascending }

pub constructors_kept : (w : World) (find : Shape → Option ℕ) (old new : List (List ℕ)) → KeepsLists old new → HoldsConstructors w find old → HoldsConstructors w find new
constructors_kept w find old new kept h q m is = let k = h q m is in (k.0, k.1, list_kept old new k.0 (IsConstructor w q) kept k.2)

pub push_keeps : (old new : List (List ℕ)) (list : List ℕ) → new ≡ old ++ list ∷ [] → KeepsLists old new
push_keeps old new list made p xs at = ap (λ l. slice_get l p) made ∙ at_first old list xs p at

pub list_pushed : (old new : List (List ℕ)) (list : List ℕ) (p : ℕ) (P : ℕ → Type 0) → new ≡ old ++ list ∷ [] → p ≡ length old → ((k : ℕ) → Contains list k ↔ P k) → IsStrictlyIncreasing list → HasList new p P
list_pushed old new list p P made place has ascends = record {
  list = list;
  at = ap (slice_get new) place ∙ ap (λ l. slice_get l (length old)) made ∙ at_last old list;
  has = has;
  ascending = ascends;
}

-- ---- the places of the labels' groups

-- a label that has a place has its list there
abbrev pub ArePlaced : World → List Row → List (Option ℕ) → List (List ℕ) → Type 0
ArePlaced w rows places groups = (n p : ℕ) → slice_get places n ≡ Some (Some p) → HasList groups p (IsOverload w rows n)

pub placed_none : (w : World) (rows : List Row) (count : ℕ) (groups : List (List ℕ)) → ArePlaced w rows (replicate count None) groups
placed_none w rows count groups n p at = absurd (never count n p at)
  where
    never : (count n p : ℕ) → slice_get (replicate count None) n ≡ Some (Some p) → ⊥
    never zero n p e = cc e
    never (suc c) zero p e = cc e
    never (suc c) (suc n) p e = never c n p e

pub placed_next : (w : World) (rows : List Row) (places : List (Option ℕ)) (old new : List (List ℕ)) (label p : ℕ) → label < length places → ArePlaced w rows places old → KeepsLists old new
    → HasList new p (IsOverload w rows label) → ArePlaced w rows (slice_set places label (Some p)) new
placed_next w rows places old new label p lt placed kept here n r at = elim (same_or_other label n) [
  | inl same ↦
      let both : Some (Some r) ≡ Some (Some p) = sym at ∙ ap (slice_get (slice_set places label (Some p))) (sym same) ∙ set_here places label (Some p) lt in
      let place : r ≡ p = cc both in
      subst (λ k. HasList new r (IsOverload w rows k)) same (subst (λ k. HasList new k (IsOverload w rows label)) (sym place) here)
  | inr other ↦ list_kept old new r (IsOverload w rows n) kept (placed n r (sym (set_there places label n (Some p) other) ∙ at))
]

-- where places and groups are the same
pub made_kept : (w : World) (rows : List Row) (old new : Made) → new.by_label ≡ old.by_label → new.groups ≡ old.groups → AreMade w rows old → AreMade w rows new
made_kept w rows old new places groups h = record {
  size = ap (λ v. length v.items) places ∙ h.size;
  each = λ n p at. subst (λ v. HasList v.items p (IsOverload w rows n)) (sym groups) (h.each n p (sym (ap (λ v. slice_get v.items n) places) ∙ at));
}

-- ---- the overloads that a label stands for

-- the methods listed so far, and those of the overloads that are left, are those of the label
abbrev pub AreGathered : World → List Row → ℕ → List ℕ → ℕ → Type 0
AreGathered w rows label methods at = (k : ℕ) → (Contains methods k ⊎ IsOverload w rows at k) ↔ IsOverload w rows label k

none_listed : (k : ℕ) → Contains [] k → ⊥
none_listed k h = let lt = h.1 in omega (arith, lt)

pub gathered_none : (w : World) (rows : List Row) (label : ℕ) (methods : List ℕ) → methods ≡ [] → AreGathered w rows label methods label
gathered_none w rows label methods none k = (
  λ h. elim h [ inl has ↦ absurd (none_listed k (subst (λ l. Contains l k) none has)) | inr its ↦ its ],
  λ h. inr h,
)

pub gathered_next : (w : World) (rows : List Row) (label : ℕ) (methods more : List ℕ) (at next : ℕ) → Passes w rows methods at more next → AreGathered w rows label methods at → AreGathered w rows label more next
gathered_next w rows label methods more at next step h k = (λ x. (h k).0 ((step k).0 x), λ x. (step k).1 ((h k).1 x))

pub members_rest : (w : World) (rows : List Row) (at next : ℕ) → ((x : Overloads) → StandsFor rows next x → StandsFor rows at x) → AreMembers w rows at → AreMembers w rows next
members_rest w rows at next leads members x stands = members x (leads x stands)

pub members_last : (w : World) (rows : List Row) (at : ℕ) (row : Row) → 0 < at → slice_get rows at ≡ Some row → AreMembers w rows at → AreBeside w row.last.member_of row.last.method row.last.method
members_last w rows at row lt is members = members row.last (last lt is refl)

pub row_leads : (rows : List Row) (at : ℕ) (row : Row) → 0 < at → slice_get rows at ≡ Some row → (x : Overloads) → StandsFor rows row.rest x → StandsFor rows at x
row_leads rows at row lt is x stands = rest lt is stands

pub zero_leads : (listed : List Row) (at : ℕ) (x : Overloads) → StandsFor listed 0 x → StandsFor listed at x
zero_leads listed at x stands = let never = stands_above listed 0 x stands in absurd (omega (arith, never))

-- the methods after are those before and those of the list
abbrev pub HasBoth : List ℕ → List ℕ → List ℕ → Type 0
HasBoth before list after = (k : ℕ) → Contains after k ↔ (Contains before k ⊎ Contains list k)

-- what the label's own row adds
pub row_passes : (w : World) (rows : List Row) (methods list after : List ℕ) (at : ℕ) (row : Row) → 0 < at → slice_get rows at ≡ Some row → IsAddition w rows row.rest row.last list → HasBoth methods list after
    → Passes w rows methods at after row.rest
row_passes w rows methods list after at row lt is adds both k = (
  λ x. elim x [
    | inl has ↦ elim ((both k).0 has) [
      | inl old ↦ inl old
      | inr new ↦ inr (row.last, last lt is refl, adds.only k new)
    ]
    | inr more ↦ inr (more.0, rest lt is more.1, more.2)
  ],
  λ x. elim x [
    | inl old ↦ inl ((both k).1 (inl old))
    | inr left ↦ elim (stands_cases rows at row left.0 is left.1) [
      | inl here ↦ elim (adds.all k (subst (λ (y : Overloads). AreBeside w y.member_of y.method k) here left.2)) [
        | inl has ↦ inl ((both k).1 (inr has))
        | inr more ↦ inr more
      ]
      | inr more ↦ inr (left.0, more, left.2)
    ]
  ],
)

-- the group of a label, if it is made
pub group_passes : (w : World) (all : List Row) (methods list after : List ℕ) (at : ℕ) → ((k : ℕ) → Contains list k ↔ IsOverload w all at k) → HasBoth methods list after → Passes w all methods at after 0
group_passes w all methods list after at listed both k = (
  λ x. elim x [
    | inl has ↦ elim ((both k).0 has) [
      | inl old ↦ inl old
      | inr new ↦ inr ((listed k).0 new)
    ]
    | inr left ↦ let never = stands_above all 0 left.0 left.1 in absurd (omega (arith, never))
  ],
  λ x. elim x [
    | inl old ↦ inl ((both k).1 (inl old))
    | inr its ↦ inl ((both k).1 (inr ((listed k).1 its)))
  ],
)

pub gathered_all : (w : World) (all : List Row) (label : ℕ) (methods : List ℕ) (at : ℕ) → at ≤ 0 → AreGathered w all label methods at → (k : ℕ) → Contains methods k ↔ IsOverload w all label k
gathered_all w all label methods at low h k = (
  λ x. (h k).0 (inl x),
  λ x. elim ((h k).1 x) [
    | inl has ↦ has
    | inr left ↦ let lt = stands_above all at left.0 left.1 in absurd (omega (arith, lt, low))
  ],
)

-- the list at a label's place
pub placed_list : (w : World) (rows : List Row) (groups : List (List ℕ)) (p n : ℕ) (list : List ℕ) → HasList groups p (IsOverload w rows n) → slice_get groups p ≡ Some list → (k : ℕ) → Contains list k ↔ IsOverload w rows n k
placed_list w rows groups p n list h at =
    let both : Some h.list ≡ Some list = sym h.at ∙ at in
    let same : h.list ≡ list = cc both in
    subst (λ l. (k : ℕ) → Contains l k ↔ IsOverload w rows n k) same h.has

pub place_within : (lists : List (List ℕ)) (p : ℕ) (P : ℕ → Type 0) → HasList lists p P → p < length lists
place_within lists p P h = slice_get_within lists p h.list h.at

-- ---- a method's group

-- what is among the labels in another order is a method's
pub in_labels : (labels taken sorted order : List ℕ) (x : ℕ) → taken ≡ labels → IsPermutation taken sorted → order ≡ sorted → Contains order x → (m : ℕ) × (slice_get labels m ≡ Some x)
in_labels labels taken sorted order x from moved same has =
    let before = Contains-permutation sorted taken x (IsPermutation-sym taken sorted moved) (subst (λ l. Contains l x) same has) in
    contains_at labels x (subst (λ l. Contains l x) from before)

module _ (w : World) (t : Labels) (labels : AreAllLabels w t) (m n : ℕ) (at : slice_get t.labels.items m ≡ Some n) where
  pub label_members : AreMembers w t.rows.items n
  label_members x stands = let its = labels.labels.sound m x (n, at, stands) in beside_first w x.member_of x.method m its

  its_label : (x : Overloads) → IsLabelled t m x → StandsFor t.rows.items n x
  its_label x h = let both : Some h.0 ≡ Some n = sym h.1 ∙ at in let same : h.0 ≡ n = cc both in subst (λ l. StandsFor t.rows.items l x) same h.2

  pub label_group : (info : MethodInfo) → slice_get w.methods m ≡ Some info → info.constructor ≡ false → (k : ℕ) → IsOverload w t.rows.items n k ↔ IsGrouped w m k
  label_group info is plain k = (
    λ h. beside_grouped w h.0.member_of h.0.method m k (labels.labels.sound m h.0 (n, at, h.1)) h.2,
    λ h.
        let b = grouped_cases w m k info (is, plain) h in
        let both = labels.all b.0 m k b.1 in
        (both.0, its_label both.0 both.1, labels.labels.sound k both.0 both.2),
  )

pub constructor_list : (w : World) (lists : List (List ℕ)) (p m : ℕ) (info : MethodInfo) → slice_get w.methods m ≡ Some info → info.constructor ≡ true → HasList lists p (IsConstructor w (shape_of info))
    → HasList lists p (IsGrouped w m)
constructor_list w lists p m info at makes h = list_says lists p (IsConstructor w (shape_of info)) (IsGrouped w m) (λ k. constructor_group w m k info at makes) h

-- ---- all methods

-- the methods below i have their places
abbrev pub HavePlaces : World → List ℕ → List (List ℕ) → ℕ → Type 0
HavePlaces w places groups i = (m : ℕ) → m < i → (p : ℕ) × (slice_get places m ≡ Some p) × HasList groups p (IsGrouped w m)

pub places_next : (w : World) (places more : List ℕ) (old new : List (List ℕ)) (i p : ℕ) → length places ≡ i → HavePlaces w places old i → KeepsLists old new → HasList new p (IsGrouped w i)
    → more ≡ places ++ p ∷ [] → HavePlaces w more new (i + 1)
places_next w places more old new i p size have kept here made m lt = elim (low_or_last m i lt) [
  | inl low ↦ let k = have m low in (k.0, ap (λ l. slice_get l m) made ∙ at_first places p k.0 m k.1, list_kept old new k.0 (IsGrouped w m) kept k.2)
  | inr is ↦ (p, ap (λ l. slice_get l m) made ∙ ap (slice_get (places ++ p ∷ [])) (is ∙ sym size) ∙ at_last places p, subst (λ j. HasList new p (IsGrouped w j)) (sym is) here)
]

pub group_told : (w : World) (t : MethodGroups) (m p : ℕ) (list result : List ℕ) → HoldsGroups w t → m < length w.methods → slice_get t.places.items m ≡ Some p → slice_get t.groups.items p ≡ Some list → result ≡ list
    → ((k : ℕ) → Contains result k ↔ IsGrouped w m k) × IsStrictlyIncreasing result
group_told w t m p list result holds lt at is same =
    let h = holds.each m lt in
    let places : Some h.0 ≡ Some p = sym h.1 ∙ at in
    let place : h.0 ≡ p = cc places in
    let lists : Some h.2.list ≡ Some list = sym h.2.at ∙ ap (slice_get t.groups.items) place ∙ is in
    let its : h.2.list ≡ result = let e : h.2.list ≡ list = cc lists in e ∙ sym same in
    (subst (λ l. (k : ℕ) → Contains l k ↔ IsGrouped w m k) its h.2.has, subst IsStrictlyIncreasing its h.2.ascending)

-- The classes directly above a class.
use Rattle.std.proofs.Common.{◌≡◌, ℕ, ◌+◌, ◌<◌, ◌≤◌, true, List, [], ◌∷◌, Some, ◌⊎◌, inl, inr, ◌↔◌, sym, ap, ◌∙◌, subst, length, arith}
use Rattle.std.specs.Prelude.{slice_get, Contains}
use Rattle.std.proofs.lemmas.Option.{slice_get_within}
use Rattle.class_world.specs.declared.world.World.{World}
use Rattle.class_world.specs.declared.world.TypeInfo.{TypeInfo}
use Rattle.class_world.specs.declared.world.JavaType.{JavaType}
use Rattle.class_world.specs.declared.world.JavaType.TheVariants as ty
use Rattle.class_world.specs.Inheritance.{IsDirectlyAbove}
use Rattle.class_world.specs.Sequences.{IsSequence}
use Rattle.class_world.specs.Sound.{IsSound}
use Rattle.class_world.specs.DirectSupers.{IsDirectSuper}
use Rattle.class_world.proofs.Words.{same_or_other}
use Rattle.member_fields.specs.Sums.{IsAbove, IsHanded, IsHandedBy}
use Rattle.member_fields.proofs.Lists.{contains_first, front_cases, none_contained}

-- the class of one of the first i types
abbrev pub IsClassOf : List JavaType → ℕ → ℕ → Type 0
IsClassOf ts i s = (k : ℕ) × (args : List JavaType) × (k < i) × (slice_get ts k ≡ Some (ty.Class s args))

pub classes_next : (ts : List JavaType) (i : ℕ) (t : JavaType) (first old new : List ℕ) → slice_get ts i ≡ Some t → ((s : ℕ) → Contains old s ↔ (Contains first s ⊎ IsClassOf ts i s))
    → ((s : ℕ) → Contains new s ↔ (Contains old s ⊎ ((args : List JavaType) × (t ≡ ty.Class s args)))) → (s : ℕ) → Contains new s ↔ (Contains first s ⊎ IsClassOf ts (i + 1) s)
classes_next ts i t first old new at before more s = (
  λ h. elim ((more s).0 h) [
    | inl was ↦ elim ((before s).0 was) [ inl f ↦ inl f | inr k ↦ inr (k.0, k.1, omega (arith, k.2), k.3) ]
    | inr is ↦ inr (i, is.0, omega arith, at ∙ ap Some is.1)
  ],
  λ h. elim h [
    | inl f ↦ (more s).1 (inl ((before s).1 (inl f)))
    | inr k ↦ elim (same_or_other k.0 i) [
      | inl is ↦ (more s).1 (inr (k.1, (let here = ap (slice_get ts) is ∙ at in let there = k.3 in cc (here, there))))
      | inr other ↦ (more s).1 (inl ((before s).1 (inr (k.0, k.1, below k.0 (omega (arith, k.2)) other, k.3))))
    ]
  ],
)
  where
    below : (k : ℕ) → k ≤ i → (k ≡ i → ⊥) → k < i
    below k le other = grind (arith, le, other)

module _ (w : World) (sound : IsSound w) where
  pub not_itself : (c s : ℕ) (args : List JavaType) → IsDirectSuper w c (ty.Class s args) → s ≡ c → ⊥
  not_itself c s args direct is = let falls = sound.falls c s args direct in let same = ap sound.rank is in absurd (omega (arith, falls, same))

  pub above_is : (c i : ℕ) (info : TypeInfo) (first above : List ℕ) → slice_get w.types c ≡ Some info
      → ((s : ℕ) → Contains first s ↔ ((s ≡ 0) × (info.interface ≡ true) × (info.supers ≡ []) × (c ≡ 0 → ⊥))) → length info.supers ≤ i
      → ((s : ℕ) → Contains above s ↔ (Contains first s ⊎ IsClassOf info.supers i s)) → (s : ℕ) → Contains above s ↔ IsAbove w c s
  above_is c i info first above at top past all s = (to, back)
    where
      to : Contains above s → IsAbove w c s
      to h = elim ((all s).0 h) [
        | inl f ↦ let o = (top s).0 f in (inr (o.0, (info, at, o.1, o.2)), λ is. o.3 (sym is ∙ o.0))
        | inr k ↦ (inl (k.1, (info, at, k.0, k.3)), not_itself c s k.1 (info, at, k.0, k.3))
      ]

      same : (i : TypeInfo) → slice_get w.types c ≡ Some i → i ≡ info
      same i is = cc (is, at)

      back : IsAbove w c s → Contains above s
      back (inl (args, (i, is, k, there)), other) =
          let found : slice_get info.supers k ≡ Some (ty.Class s args) = ap (λ (i : TypeInfo). slice_get i.supers k) (sym (same i is)) ∙ there in
          (all s).1 (inr (k, args, (let lt = slice_get_within info.supers k _ found in omega (arith, lt, past)), found))
      back (inr (zero_is, (i, is, interface, none)), other) =
          (all s).1 (inl ((top s).1 (zero_is, ap (λ (i : TypeInfo). i.interface) (sym (same i is)) ∙ interface, ap (λ (i : TypeInfo). i.supers) (sym (same i is)) ∙ none, λ top_is. other (zero_is ∙ sym top_is))))

  -- nothing is above Object
  pub none_above_top : (c s : ℕ) → c ≡ 0 → IsAbove w c s → ⊥
  none_above_top c s is (inl (args, (i, at, k, there)), other) =
      let none = (sound.declared.top i (ap (slice_get w.types) (sym is) ∙ at)).1 in
      absurd (cc (ap (λ xs. slice_get xs k) none, there))
  none_above_top c s is (inr (zero_is, rest), other) = other (zero_is ∙ sym is)

  -- nor above what is no type
  pub above_known : (c s : ℕ) → IsDirectlyAbove w c s → c < length w.types
  above_known c s (inl (args, (i, at, k, there))) = slice_get_within w.types c i at
  above_known c s (inr (zero_is, (i, at, interface, none))) = slice_get_within w.types c i at

  -- of a class in the sequence those above it come before, or it is Object
  pub above_before : (order : List ℕ) → IsSequence w order → (P : ℕ → Type 0) (i c : ℕ) → slice_get order i ≡ Some c → P 0 → ((j d : ℕ) → j < i → slice_get order j ≡ Some d → P d)
      → (s : ℕ) → IsDirectlyAbove w c s → P s
  above_before order h P i c at top before s (inl (args, direct)) = let found = h.before i c s args at direct in before found.0 s found.1 found.2
  above_before order h P i c at top before s (inr (zero_is, rest)) = subst P (sym zero_is) top

-- the list that begins with Object or is empty

pub zero_first : {A B C : Type 0} (first : List ℕ) → first ≡ 0 ∷ [] → A × B × C → (s : ℕ) → Contains first s ↔ ((s ≡ 0) × A × B × C)
zero_first first is h s = (
  λ has. elim (front_cases 0 [] s (subst (λ xs. Contains xs s) is has)) [ inl zero_is ↦ (zero_is, h.0, h.1, h.2) | inr none ↦ absurd (none_contained s none) ],
  λ o. subst (λ xs. Contains xs s) (sym is) (subst (Contains (0 ∷ [])) (sym o.0) (contains_first 0 [])),
)

pub zero_nowhere : {A B C : Type 0} (first : List ℕ) → first ≡ [] → (A × B × C → ⊥) → (s : ℕ) → Contains first s ↔ ((s ≡ 0) × A × B × C)
zero_nowhere first is none s = (λ has. absurd (none_contained s (subst (λ xs. Contains xs s) is has)), λ o. absurd (none (o.1, o.2, o.3)))

pub handed_alike : (w : World) (c : ℕ) (classes above : List ℕ) → classes ≡ above → ((s : ℕ) → Contains above s ↔ IsAbove w c s) → (n f : ℕ) → IsHandedBy w classes n f ↔ IsHanded w c n f
handed_alike w c classes above is alike n f = (
  λ h. (h.0, (alike h.0).0 (subst (λ xs. Contains xs h.0) is h.1), h.2),
  λ h. (h.0, subst (λ xs. Contains xs h.0) (sym is) ((alike h.0).1 h.1), h.2),
)

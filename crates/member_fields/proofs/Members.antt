-- The member fields of a class: what those above hand down, and its own.
use Rattle.std.proofs.Common.{◌≡◌, ℕ, Bool, true, false, List, Some, ◌⊎◌, inl, inr, ◌↔◌, sym, ap, ◌∙◌, subst}
use Rattle.std.specs.Prelude.{slice_get, Contains}
use Rattle.java_tree.specs.declared.tree.Name.{Name}
use Rattle.java_tree.specs.declared.tree.Mod.TheVariants as mods
use Rattle.class_world.specs.declared.world.World.{World}
use Rattle.class_world.specs.declared.world.FieldInfo.{FieldInfo}
use Rattle.class_world.specs.Inheritance.{DeclaresField, IsDirectlyAbove, IsMemberField, declared, inherited}
use Rattle.class_world.specs.Sound.{IsSound}
use Rattle.class_world.proofs.Words.{same_or_other}
use Rattle.member_fields.specs.Own.{Owns}
use Rattle.member_fields.specs.Sums.{HandsDown, HasMember, IsHanded, IsNamed, IsPrivate}
use Rattle.member_fields.proofs.Heights.{none_above_top, not_itself}
use Rattle.member_fields.proofs.Meanings.{IsAlso, IsKeptBut}

abbrev Inherits : World → ℕ → ℕ → Type 0
Inherits w c f =
    (s : ℕ) × (info : FieldInfo) × IsDirectlyAbove w c s × IsMemberField w s f × (slice_get w.fields f ≡ Some info) × (Contains info.mods mods.Private → ⊥)
    × ((k : ℕ) (own : FieldInfo) → DeclaresField w c k own → own.name ≡ info.name → ⊥)

member_cases : (w : World) (c f : ℕ) → IsMemberField w c f → Owns w c f ⊎ Inherits w c f
member_cases w c f (declared {info = info} d) = inl (info, d)
member_cases w c f (inherited {s = s} {info = info} above m at other none) = inr (s, info, above, m, at, other, none)

-- Object has its own fields alone
top_owns : (w : World) (sound : IsSound w) (c f : ℕ) → c ≡ 0 → IsMemberField w c f → Owns w c f
top_owns w sound c f top (declared {info = info} d) = (info, d)
top_owns w sound c f top (inherited {s = s} {info = info} above m at other none) = elim (same_or_other s c) [
  | inr differs ↦ absurd (none_above_top w sound c s top (above, differs))
  | inl is ↦
      let own = top_owns w sound s f (is ∙ top) m in
      let info_is : own.0 ≡ info = let found = own.1.0 in cc (found, at) in
      absurd (none f own.0 (own.1.0, own.1.1 ∙ is) (ap (λ (i : FieldInfo). i.name) info_is))
]

pub name_is : (a b : Name) → a.0 ≡ b.0 → a ≡ b
name_is a b e = ap (λ n. (λ (r : Name). r) (record { 0 = n })) e

module _ (w : World) (sound : IsSound w) (c : ℕ) (own : List ℕ) (lists : (k : ℕ) → Contains own k ↔ Owns w c k) (n f : ℕ) where
  abbrev IsLeft : Type 0
  IsLeft = IsKeptBut w n (IsHanded w c n) own f

  left_from : IsNamed w n f → IsMemberField w c f → Inherits w c f → IsLeft ⊎ Owns w c f
  left_from named member (s, info, above, m, at, other, none) = elim (same_or_other s c) [
    | inl is ↦ inr (elim above [
      | inl direct ↦ absurd (not_itself w sound c s direct.0 direct.1 is)
      | inr top ↦ top_owns w sound c f (sym is ∙ top.0) member
    ])
    | inr differs ↦ inl ((s, (above, differs), ((m, named), not_private)), no_own)
  ]
    where
      not_private : IsPrivate w f → ⊥
      not_private p = let same : p.0 ≡ info = let found = p.1 in cc (found, at) in other (subst (λ (i : FieldInfo). Contains i.mods mods.Private) same p.2)

      no_own : (k : ℕ) → Contains own k → IsNamed w n k → ⊥
      no_own k has (i, at_k, is_n) =
          let o = (lists k).0 has in
          let same : o.0 ≡ i = let found = o.1.0 in cc (found, at_k) in
          let this : named.0 ≡ info = let found = named.1 in cc (found, at) in
          none k o.0 o.1 (name_is o.0.name info.name (ap (λ (i : FieldInfo). i.name.0) same ∙ is_n ∙ sym named.2 ∙ ap (λ (i : FieldInfo). i.name.0) this))

  abbrev IsPart : Bool → Type 0
  IsPart private_too = IsAlso w private_too n (IsKeptBut w n (IsHanded w c n) own) own f

  member_parts : HasMember w c n f → IsPart true
  member_parts (m, named) = elim (member_cases w c f m) [
    | inl owns ↦ inr ((lists f).1 owns, (named, tt))
    | inr h ↦ elim (left_from named m h) [ inl left ↦ inl left | inr owns ↦ inr ((lists f).1 owns, (named, tt)) ]
  ]

  part_member : IsPart true → HasMember w c n f
  part_member (inr (has, (named, t))) = let o = (lists f).0 has in (declared o.1, named)
  part_member (inl ((s, above, ((m, named), not_private)), no_own)) = (
    inherited above.0 m named.1 (λ has. not_private (named.0, named.1, has)) (λ k o d same. no_own k ((lists k).1 (o, d)) (o, d.0, ap (λ (a : Name). a.0) same ∙ named.2)),
    named,
  )

  pub members_are : IsPart true ↔ HasMember w c n f
  members_are = (part_member, member_parts)

  pub handed_are : IsPart false ↔ HandsDown w c n f
  handed_are = (
    λ h. elim h [
      | inl left ↦ (part_member (inl left), left.0.2.1)
      | inr own ↦ (part_member (inr (own.0, (own.1.0, tt))), own.1.1)
    ],
    λ h. elim (member_parts h.0) [ inl left ↦ inl left | inr own ↦ inr (own.0, (own.1.0, h.1)) ],
  )

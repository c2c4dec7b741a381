-- The table that is built says what each name means.
use Rattle.std.proofs.Common.{◌≡◌, ℕ, ◌<◌, List, Option, Some, None, ◌⊎◌, inl, inr, ◌↔◌, refl, sym, ap, subst, length, arith}
use Rattle.std.specs.Prelude.{slice_get}
use Rattle.std.proofs.lemmas.Option.{slice_get_within}
use Rattle.java_tree.specs.declared.tree.Name.{Name}
use Rattle.class_world.specs.declared.world.World.{World}
use Rattle.class_world.specs.declared.world.JavaType.{JavaType}
use Rattle.class_world.specs.Inheritance.{IsFieldNamed, IsMemberField, declared, holder, inherited}
use Rattle.class_world.specs.Sound.{IsSound}
use Rattle.shared_maps.specs.declared.Map.{Map}
use Rattle.shared_maps.specs.Trees.{Memory}
use Rattle.shared_maps.specs.Maps.{value_in}
use Rattle.shared_maps.proofs.Views.{value_within}
use Rattle.member_fields.specs.declared.build.Build.{Build}
use Rattle.member_fields.specs.declared.tables.FieldTable.{FieldTable}
use Rattle.member_fields.specs.Built.{IsDone, IsSized}
use Rattle.member_fields.specs.Fields.{HoldsFields, value_at, value_under}
use Rattle.member_fields.specs.Own.{ListsFields, NamesBelow}
use Rattle.member_fields.specs.Sums.{HasMember, Summarizes, Sums}
use Rattle.member_fields.proofs.Heights.{above_known}
use Rattle.member_fields.proofs.Lists.{there_is}
use Rattle.member_fields.proofs.Meanings.{field_is, same_sums}
use Rattle.member_fields.proofs.Members.{name_is}

-- what has a member is a type, or a number that has a list
member_known : (w : World) (sound : IsSound w) (own : List (List ℕ)) → ListsFields w own → (c f : ℕ) → IsMemberField w c f → c < length own
member_known w sound own lists c f (declared {info = info} d) = let has = (lists.lists c f).1 (info, d) in slice_get_within own c has.0 has.1
member_known w sound own lists c f (inherited {s = s} above m at other none) = let known = above_known w sound c s above in omega (arith, known, lists.size)

-- a map of which all is known
map_sums : (w : World) (maps : Memory) (c : ℕ) (map : Map) (n : ℕ) → NamesBelow w maps.keys → Sums maps (HasMember w c) map → Summarizes (HasMember w c n) (value_in maps map n)
map_sums w maps c map n below h = by (below_or_not n maps.keys)
  where
    below_or_not : (a b : ℕ) → (a < b) ⊎ (a < b → ⊥)
    below_or_not a b = grind arith

    past : (n < maps.keys → ⊥) → (v : Option ℕ) → value_in maps map n ≡ v → Summarizes (HasMember w c n) v
    past not_below None is = λ f has. let named = has.1 in not_below (subst (λ k. k < maps.keys) named.2 (below f named.0 named.1))
    past not_below (Some x) is = absurd (not_below (value_within maps map n x is))

    by : (n < maps.keys) ⊎ (n < maps.keys → ⊥) → Summarizes (HasMember w c n) (value_in maps map n)
    by (inl lt) = h.sums n lt
    by (inr not_below) = past not_below (value_in maps map n) refl

module _ (w : World) (sound : IsSound w) (own : List (List ℕ)) (lists : ListsFields w own) (names : ℕ) (below : NamesBelow w names) (b : Build) (sized : IsSized b names (length own))
    (done : (c : ℕ) → c < length own → IsDone w b c) where
  alike : (t : JavaType) (n : Name) (c f : ℕ) → holder t ≡ Some c → HasMember w c n.0 f ↔ IsFieldNamed w t n f
  alike t n c f is = (
    λ h. ((c, is, h.0), (h.1.0, h.1.1, name_is h.1.0.name n h.1.2)),
    λ h. let same : h.0.0 ≡ c = let found = h.0.1 in cc (found, is) in (subst (λ d. IsMemberField w d f) same h.0.2, (h.1.0, h.1.1, ap (λ (a : Name). a.0) h.1.2)),
  )

  class_sums : (c n : ℕ) (o : Option Map) → slice_get b.members.items c ≡ o → Summarizes (HasMember w c n) (value_under b.maps o n)
  class_sums c n None is = λ f has.
      let known = member_known w sound own lists c f has.0 in
      let there = there_is b.members.items c (omega (arith, known, sized.members)) in
      let at = there.1 in absurd (cc (at, is))
  class_sums c n (Some map) is =
      let lt = slice_get_within b.members.items c map is in
      let member = (done c (omega (arith, lt, sized.members))).members in
      let same : member.0 ≡ map = let found = member.1 in cc (found, is) in
      map_sums w b.maps c map n (subst (NamesBelow w) (sym sized.keys) below) (subst (Sums b.maps (HasMember w c)) same member.2)

  pub holds : (members : List Map) → members ≡ b.members.items → HoldsFields w (record { maps = b.maps; members = members })
  holds members is t n = field_is w t n (value_at table (holder t) n.0) (by (holder t) refl)
    where
      table : FieldTable
      table = record { maps = b.maps; members = members }

      by : (o : Option ℕ) → holder t ≡ o → Summarizes (IsFieldNamed w t n) (value_at (record { maps = b.maps; members = members }) o n.0)
      by None none = λ f h. let found = h.0.1 in absurd (cc (found, none))
      by (Some c) found =
          same_sums (value_under b.maps (slice_get members c) n.0) (λ f. alike t n c f found) (class_sums c n.0 (slice_get members c) (ap (λ xs. slice_get xs c) (sym is)))

-- The classes in turn.
use Rattle.std.proofs.Common.{◌≡◌, ℕ, ◌+◌, ◌<◌, ◌≤◌, List, Some, ◌⊎◌, inl, inr, ◌↔◌, refl, sym, ap, ◌∙◌, subst, length, get_or, arith}
use Rattle.std.specs.Prelude.{slice_get, Contains}
use Rattle.std.proofs.lemmas.Option.{slice_get_read, slice_get_within, slice_get-get_or}
use Rattle.class_world.specs.declared.world.World.{World}
use Rattle.class_world.specs.Sequences.{IsSequence}
use Rattle.class_world.specs.Sound.{IsSound}
use Rattle.member_fields.specs.declared.build.Build.{Build}
use Rattle.member_fields.specs.Own.{ListsFields, Owns}
use Rattle.member_fields.specs.Sums.{HandsDown, HasMap, IsAbove}
use Rattle.member_fields.specs.Built.{Grows, IsDone, IsSized}
use Rattle.member_fields.proofs.Heights.{above_before, above_known}
use Rattle.member_fields.proofs.Owners.{list_of}

pub own_read : (w : World) (own : List (List ℕ)) (c : ℕ) (row fs : List ℕ) → ListsFields w own → c < length own → row ≡ get_or own c row → fs ≡ row → (f : ℕ) → Contains fs f ↔ Owns w c f
own_read w own c row fs h lt is same f =
    subst (λ xs. Contains xs f ↔ Owns w c f) (sym same) (list_of w own c row h (slice_get_read own (length own) c row refl lt is) f)

below_more : (k i : ℕ) → k < i + 1 → (k < i) ⊎ (k ≡ i)
below_more k i h = grind (arith, h)

module _ (w : World) (own : List (List ℕ)) (order : List ℕ) (sound : IsSound w) (lists : ListsFields w own) (h : IsSequence w order) (i : ℕ) (lt : i < length order) where
  pub here : slice_get order i ≡ Some (get_or order i 0)
  here = slice_get-get_or order i 0 lt

  pub within : get_or order i 0 < length own
  within = let known = h.known i (get_or order i 0) here in omega (arith, known, lists.size)

  pub members_within : (b : Build) → (names : ℕ) × IsSized b names (length own) → get_or order i 0 < length b.members.items
  members_within b sized = omega (arith, within, sized.1.members)

  pub handed_within : (b : Build) → (names : ℕ) × IsSized b names (length own) → get_or order i 0 < length b.handed.items
  handed_within b sized = omega (arith, within, sized.1.handed)

  pub ready : (b : Build) → (0 < length own → IsDone w b 0) → ((j d : ℕ) → j < i → slice_get order j ≡ Some d → IsDone w b d) → (s : ℕ) → IsAbove w (get_or order i 0) s → HasMap b.maps b.handed.items (HandsDown w s) s
  ready b top before s above =
      (above_before w sound order h (IsDone w b) i (get_or order i 0) here (top (let some = within in omega (arith, some))) before s above.0).handed

  pub done_next : (old new : Build) → Grows w old new → IsDone w new (get_or order i 0) → ((j d : ℕ) → j < i → slice_get order j ≡ Some d → IsDone w old d)
      → (j d : ℕ) → j < i + 1 → slice_get order j ≡ Some d → IsDone w new d
  done_next old new grows this before j d below at = elim (below_more j i below) [
    | inl was ↦ grows.done d (before j d was at)
    | inr is ↦ let same : get_or order i 0 ≡ d = let there = ap (slice_get order) (sym is) ∙ at in let read = here in cc (there, read) in subst (IsDone w new) same this
  ]

pub all_done : (w : World) (order : List ℕ) (b : Build) (i : ℕ) → IsSequence w order → length order ≤ i → ((j d : ℕ) → j < i → slice_get order j ≡ Some d → IsDone w b d) → (d : ℕ) → d < length w.types → IsDone w b d
all_done w order b i h past before d known = let found = h.all d known in let lt = slice_get_within order found.0 d found.1 in before found.0 d (omega (arith, lt, past)) found.1

-- a number of no type
pub nothing_above : (w : World) (sound : IsSound w) (c s : ℕ) → length w.types ≤ c → IsAbove w c s → ⊥
nothing_above w sound c s past above = let known = above_known w sound c s above.0 in absurd (omega (arith, known, past))

pub extra_next : (w : World) (old new : Build) (c : ℕ) → Grows w old new → IsDone w new c → ((d : ℕ) → d < c → IsDone w old d) → (d : ℕ) → d < c + 1 → IsDone w new d
extra_next w old new c grows this before d below = elim (below_more d c below) [ inl was ↦ grows.done d (before d was) | inr is ↦ subst (IsDone w new) (sym is) this ]

-- A class more is done.
use Rattle.std.proofs.Common.{◌≡◌, ℕ, ◌<◌, true, false, List, [], ◌∷◌, ◌++◌, ◌⊎◌, inl, inr, ◌↔◌, sym, ap, ◌∙◌, subst, length, get_or}
use Rattle.std.specs.Prelude.{slice_get, slice_set, Contains}
use Rattle.std.specs.List.{fold}
use Rattle.std.proofs.lemmas.List.Elements.{Contains-append_left, Contains-append_right, Contains-append_cases}
use Rattle.std.proofs.lemmas.Option.{slice_get_within, slice_get-get_or}
use Rattle.shared_maps.specs.declared.Map.{Map}
use Rattle.shared_maps.specs.Trees.{Memory}
use Rattle.shared_maps.specs.Maps.{KeepsMaps, value_in}
use Rattle.class_world.specs.declared.world.World.{World}
use Rattle.class_world.specs.Sound.{IsSound}
use Rattle.class_world.proofs.Words.{same_or_other, set_here, set_there, length_set}
use Rattle.member_fields.specs.declared.build.Build.{Build}
use Rattle.member_fields.specs.Own.{Owns}
use Rattle.member_fields.specs.Values.{Changes, joined, with_at, without_at}
use Rattle.member_fields.specs.Sums.{HandsDown, HasMap, HasMember, IsHanded, IsHandedBy, Sums}
use Rattle.member_fields.specs.Built.{Grows, IsDone, IsSized}
use Rattle.member_fields.proofs.Lists.{contains_first, front_cases, none_contained}
use Rattle.member_fields.proofs.Meanings.{IsKeptBut, joined_sums, same_sums, with_sums, without_sums}
use Rattle.member_fields.proofs.Members.{members_are, handed_are}
use Rattle.member_fields.proofs.Steps.{has_kept, sums_changed, sums_kept}

pub sums_alike : {m : Memory} {P Q : ℕ → ℕ → Type 0} {map : Map} → ((n f : ℕ) → P n f ↔ Q n f) → Sums m P map → Sums m Q map
sums_alike {m} {P} {Q} {map} alike h = record { is_map = h.is_map; sums = λ n below. same_sums (value_in m map n) (alike n) (h.sums n below) }

-- ---- what the classes above hand down

-- the map of one class, as it is read
pub handed_map : (w : World) (maps : Memory) (handed : List Map) (s : ℕ) (d : Map) → HasMap maps handed (HandsDown w s) s → (s < length handed) × Sums maps (HandsDown w s) (get_or handed s d)
handed_map w maps handed s d h =
    let lt = slice_get_within handed s h.0 h.1 in
    let is : h.0 ≡ get_or handed s d = let found = h.1 in let read = slice_get-get_or handed s d lt in cc (found, read) in
    (lt, subst (Sums maps (HandsDown w s)) is h.2)

-- one class alone
pub alone : (w : World) (maps : Memory) (classes : List ℕ) (s : ℕ) (map : Map) → classes ≡ s ∷ [] → Sums maps (HandsDown w s) map → Sums maps (IsHandedBy w classes) map
alone w maps classes s map is = sums_alike (λ n f. (
  λ h. (s, subst (λ l. Contains l s) (sym is) (contains_first s []), h),
  λ h. elim (front_cases s [] h.0 (subst (λ l. Contains l h.0) is h.1)) [ inl same ↦ subst (λ c. HandsDown w c n f) same h.2 | inr none ↦ absurd (none_contained h.0 none) ],
))

-- both halves
pub merged_halves : (w : World) (one two new : Memory) (classes left right : List ℕ) (a b r : Map) → classes ≡ left ++ right → KeepsMaps one two → Sums one (IsHandedBy w left) a
    → Sums two (IsHandedBy w right) b → Changes two new a (λ k v. joined v (value_in two b k)) r → Sums new (IsHandedBy w classes) r
merged_halves w one two new classes left right a b r is kept first second changes =
    sums_changed (λ k v. joined v (value_in two b k)) changes (sums_kept kept first) (λ n v below h.
    same_sums (joined v (value_in two b n)) (λ f. (to n f, back n f)) (joined_sums (IsHandedBy w left n) (IsHandedBy w right n) v (value_in two b n) h (second.sums n below)))
  where
    to : (n f : ℕ) → IsHandedBy w left n f ⊎ IsHandedBy w right n f → IsHandedBy w classes n f
    to n f (inl h) = (h.0, subst (λ l. Contains l h.0) (sym is) (Contains-append_left left right h.0 h.1), h.2)
    to n f (inr h) = (h.0, subst (λ l. Contains l h.0) (sym is) (Contains-append_right left right h.0 h.1), h.2)

    back : (n f : ℕ) → IsHandedBy w classes n f → IsHandedBy w left n f ⊎ IsHandedBy w right n f
    back n f h = elim (Contains-append_cases left right h.0 (subst (λ l. Contains l h.0) is h.1)) [ inl x ↦ inl (h.0, x, h.2) | inr x ↦ inr (h.0, x, h.2) ]

-- ---- a class

module _ (w : World) (sound : IsSound w) (c : ℕ) (own : List ℕ) (lists : (k : ℕ) → Contains own k ↔ Owns w c k) where
  abbrev IsLeft : ℕ → ℕ → Type 0
  IsLeft n f = IsKeptBut w n (IsHanded w c n) own f

  pub left_sums : {old new : Memory} {map r : Map} → Changes old new map (λ k v. fold (without_at w k) v own) r → Sums old (IsHanded w c) map → Sums new IsLeft r
  left_sums changes h = sums_changed (λ k v. fold (without_at w k) v own) changes h (λ n v below at. without_sums w n own (IsHanded w c n) v at)

  pub member_sums : {old new : Memory} {map r : Map} → Changes old new map (λ k v. fold (with_at w true k) v own) r → Sums old IsLeft map → Sums new (HasMember w c) r
  member_sums changes h = sums_alike (λ n f. members_are w sound c own lists n f) (sums_changed (λ k v. fold (with_at w true k) v own) changes h (λ n v below at. with_sums w true n own (IsLeft n) v at))

  pub hands_sums : {old new : Memory} {map r : Map} → Changes old new map (λ k v. fold (with_at w false k) v own) r → Sums old IsLeft map → Sums new (HandsDown w c) r
  hands_sums changes h = sums_alike (λ n f. handed_are w sound c own lists n f) (sums_changed (λ k v. fold (with_at w false k) v own) changes h (λ n v below at. with_sums w false n own (IsLeft n) v at))

pub added : (w : World) (old new : Build) (c : ℕ) (m h : Map) → KeepsMaps old.maps new.maps → new.members.items ≡ slice_set old.members.items c m → new.handed.items ≡ slice_set old.handed.items c h
    → c < length old.members.items → c < length old.handed.items → Sums new.maps (HasMember w c) m → Sums new.maps (HandsDown w c) h → Grows w old new × IsDone w new c
added w old new c m h kept is is' lt lt' members handed = (record { sized = sized; done = λ s d. elim (same_or_other c s) [ inl same ↦ subst (IsDone w new) same this | inr other ↦ stays s other d ] }, this)
  where
    this : IsDone w new c
    this = record {
      members = (m, ap (λ xs. slice_get xs c) is ∙ set_here old.members.items c m lt, members);
      handed = (h, ap (λ xs. slice_get xs c) is' ∙ set_here old.handed.items c h lt', handed);
    }

    sized : (names classes : ℕ) → IsSized old names classes → IsSized new names classes
    sized names classes s = record {
      keys = kept.keys ∙ s.keys;
      members = ap length is ∙ length_set old.members.items c m ∙ s.members;
      handed = ap length is' ∙ length_set old.handed.items c h ∙ s.handed;
    }

    stays : (s : ℕ) → (c ≡ s → ⊥) → IsDone w old s → IsDone w new s
    stays s other d = record {
      members = has_kept old.maps new.maps (HasMember w s) new.members.items s kept (d.members.0, ap (λ xs. slice_get xs s) is ∙ set_there old.members.items c s m other ∙ d.members.1, d.members.2);
      handed = has_kept old.maps new.maps (HandsDown w s) new.handed.items s kept (d.handed.0, ap (λ xs. slice_get xs s) is' ∙ set_there old.handed.items c s h other ∙ d.handed.1, d.handed.2);
    }

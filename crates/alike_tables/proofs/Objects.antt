-- Fields of objects, and where there are none.
use Rattle.std.proofs.Common.{◌≡◌, ℕ, ◌==◌, zero, suc, Bool, true, false, List, [], ◌∷◌, ◌++◌, map, Option, Some, None, inl, inr, refl, sym, ap, ◌∙◌}
use Rattle.std.specs.Prelude.{slice_get, filter, if◌then◌else◌}
use Rattle.std.specs.List.{find}
use Rattle.std.specs.Option.{option_map}
use Rattle.std.proofs.lemmas.Bool.{cases_eq, eq-eqb, ne_eqb}
use Rattle.class_world.specs.declared.world.World.{World}
use Rattle.core_meaning.specs.declared.values.Held.{Held}
use Rattle.core_meaning.specs.State.{held}
use Rattle.core_meaning.specs.Code.{superclass, superclass_of, declared_fields, own_fields, is_instance_field, fields_above}
use Rattle.program_maps.specs.Ways.{IsOneToOne}
use Rattle.alike_tables.specs.Tables.{moved_held}

-- ---- what a field holds

same_test : (f : ℕ → ℕ) → IsOneToOne f → (a b : ℕ) → (f a == f b) ≡ (a == b)
same_test f one a b = elim (cases_eq a b) [
  | inl is ↦ eq-eqb (f a) (f b) (ap f is) ∙ sym (eq-eqb a b is)
  | inr not ↦ ne_eqb (f a) (f b) (λ is. not (one a b is)) ∙ sym (ne_eqb a b not)
]

found_by : (t t' : Bool) (h : Held) (f : ℕ → ℕ) (o o' : Option Held) → t' ≡ t → option_map (λ (h : Held). h.value) o' ≡ option_map (λ (h : Held). h.value) o
    → option_map (λ (h : Held). h.value) (if t' then Some (moved_held f h) else o') ≡ option_map (λ (h : Held). h.value) (if t then Some h else o)
found_by true true h f o o' same rest = refl
found_by false false h f o o' same rest = rest
found_by true false h f o o' same rest = absurd (cc same)
found_by false true h f o o' same rest = absurd (cc same)

pub held_moved : (f : ℕ → ℕ) → IsOneToOne f → (k : ℕ) (hs : List Held) → held (f k) (map (moved_held f) hs) ≡ held k hs
held_moved f one k [] = refl
held_moved f one k (h ∷ hs) =
    found_by (h.field == k) (f h.field == f k) h f (find (λ (h : Held). h.field == k) hs) (find (λ (h : Held). h.field == f k) (map (moved_held f) hs)) (same_test f one h.field k)
    (held_moved f one k hs)

-- ---- a number of no type

none_above : (n : ℕ) (w : World) → fields_above n w None ≡ []
none_above zero w = refl
none_above (suc n) w = refl

no_own : (w : World) (k : ℕ) → slice_get w.types k ≡ None → own_fields w k ≡ []
no_own w k none = ap (λ o. filter (is_instance_field w) (declared_fields o)) none

no_super : (w : World) (k : ℕ) → slice_get w.types k ≡ None → superclass w k ≡ None
no_super w k none = ap (superclass_of w) none

pub no_fields : (n : ℕ) (w : World) (k : ℕ) → slice_get w.types k ≡ None → fields_above n w (Some k) ≡ []
no_fields zero w k none = refl
no_fields (suc n) w k none =
    ap (λ l. fields_above n w (superclass w k) ++ l) (no_own w k none)
    ∙ ap (λ s. fields_above n w s ++ []) (no_super w k none)
    ∙ ap (λ l. l ++ []) (none_above n w)

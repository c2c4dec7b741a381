-- Rows of a table that begin as others, and that get entries.
use Rattle.std.proofs.Common.{◌≡◌, ℕ, ◌+◌, ◌<◌, ◌≤◌, List, Option, Some, None, inl, inr, refl, sym, ap, ◌∙◌, subst, length}
use Rattle.std.specs.Prelude.{slice_get, slice_set}
use Rattle.shared_maps.specs.declared.Map.{Map}
use Rattle.shared_maps.specs.Trees.{Memory}
use Rattle.shared_maps.specs.Maps.{AreEntries, value_in}
use Rattle.shared_maps.proofs.Views.{value_within}
use Rattle.class_world.proofs.Words.{set_here, set_there, same_or_other}
use Rattle.method_ties.proofs.Firsts.{Among}
use Rattle.member_methods.proofs.Firsts.{among_none, among_cases, among_more, among_last, among_all, among_contains}
use Rattle.overrides.specs.Tables.{Rows, IsWritten, value_at, value_of}
use Rattle.found_methods.specs.Tables.{begun_with, first_of, StaysBut, IsBegun, IsOverlaid}

pub row_begun : (maps : Memory) (rows : List Map) (row : ℕ) (map : Map) (from : Option ℕ) → row < length rows → ((key : ℕ) → value_in maps map key ≡ begun_with (record { maps = maps; rows = rows }) from key)
    → IsBegun (record { maps = maps; rows = rows }) (record { maps = maps; rows = slice_set rows row map }) row from
row_begun maps rows row map from lt same = record {
  here = λ key. ap (λ o. value_of maps o key) (set_here rows row map lt) ∙ same key;
  there = λ a b other. ap (λ o. value_of maps o b) (set_there rows row a map (λ e. other (sym e)));
}

-- nothing was written, where the value was there
pub written_already : (t : Rows) (row key v : ℕ) → value_at t row key ≡ Some v → IsWritten t t row key v
written_already t row key v is = record { here = is; there = λ a b other. refl }

-- the first i entries are there
pub record IsOverlaying (old now : Rows) (row : ℕ) (entries : List (ℕ × ℕ)) (i : ℕ) : Type 0 where
  pub done : (key v : ℕ) → Among entries i (key, v) → value_at now row key ≡ Some v
  pub left : (key : ℕ) → ((v : ℕ) → Among entries i (key, v) → ⊥) → value_at now row key ≡ value_at old row key
  pub there : StaysBut old now row

pub overlay_begins : (t : Rows) (row : ℕ) (entries : List (ℕ × ℕ)) → IsOverlaying t t row entries 0
overlay_begins t row entries = record { done = λ key v h. absurd (among_none entries (key, v) h); left = λ key none. refl; there = λ a b other. refl }

pub overlay_next : (old now new : Rows) (row : ℕ) (value : ℕ → Option ℕ) (entries : List (ℕ × ℕ)) (i key v : ℕ) → AreEntries value entries → IsOverlaying old now row entries i → slice_get entries i ≡ Some (key, v)
    → IsWritten now new row key v → IsOverlaying old new row entries (i + 1)
overlay_next old now new row value entries i key v are before at written = record {
  done = λ k x h. elim (among_cases entries i (k, x) (key, v) at h) [
    | inl was ↦ elim (same_or_other k key) [
      | inl same ↦
          let a = (are.each k x).0 (among_contains entries i (k, x) was) in
          let b = (are.each key v).0 (among_contains entries (i + 1) (key, v) (among_last entries i (key, v) at)) in
          let one : Some x ≡ Some v = sym a ∙ ap value same ∙ b in
          ap (value_at new row) same ∙ written.here ∙ sym one
      | inr other ↦ written.there row k (λ e. other) ∙ before.done k x was
    ]
    | inr last ↦
        let first : k ≡ key = ap (λ (p : ℕ × ℕ). p.0) last in
        let second : x ≡ v = ap (λ (p : ℕ × ℕ). p.1) last in
        ap (value_at new row) first ∙ written.here ∙ ap (λ y. Some y) (sym second)
  ];
  left = λ k none. elim (same_or_other k key) [
    | inl same ↦ absurd (none v (subst (λ (y : ℕ). Among entries (i + 1) (y, v)) (sym same) (among_last entries i (key, v) at)))
    | inr other ↦ written.there row k (λ e. other) ∙ before.left k (λ x h. none x (among_more entries i (k, x) h))
  ];
  there = λ a b other. written.there a b (λ e. absurd (other e)) ∙ before.there a b other;
}

pub overlay_ends : (old new : Rows) (row : ℕ) (value : ℕ → Option ℕ) (entries : List (ℕ × ℕ)) (i : ℕ) → AreEntries value entries → length entries ≤ i → IsOverlaying old new row entries i → IsOverlaid old new row value
overlay_ends old new row value entries i are past all = record { here = λ key. by key (value key) refl; there = all.there }
  where
    by : (key : ℕ) (o : Option ℕ) → value key ≡ o → value_at new row key ≡ first_of o (value_at old row key)
    by key None is = all.left key (λ v h. let has = (are.each key v).0 (among_contains entries i (key, v) h) in absurd (cc (is, has)))
    by key (Some v) is = all.done key v (among_all entries i (key, v) past ((are.each key v).1 is))

-- a key with a value is below the limit
pub table_within : (t : Rows) (row key v : ℕ) → value_at t row key ≡ Some v → key < t.maps.keys
table_within t row key v is = by (slice_get t.rows row) refl
  where
    by : (o : Option Map) → slice_get t.rows row ≡ o → key < t.maps.keys
    by None at = absurd (cc (ap (λ o. value_of t.maps o key) at, is))
    by (Some map) at = value_within t.maps map key v (sym (ap (λ o. value_of t.maps o key) at) ∙ is)

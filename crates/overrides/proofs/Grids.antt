-- A table after a write.
use Rattle.std.proofs.Common.{◌≡◌, ℕ, ◌<◌, List, Option, Some, None, ◌⊎◌, inl, inr, refl, sym, ap, ◌∙◌, subst, length, arith}
use Rattle.std.specs.Prelude.{slice_get, slice_set, ◌==◌, if◌then◌else◌}
use Rattle.std.specs.Option.{option_or}
use Rattle.std.proofs.lemmas.Bool.{cases_lt, eq-eqb, ne_eqb, cond-true, cond-false}
use Rattle.std.proofs.lemmas.Option.{slice_get_within}
use Rattle.shared_maps.specs.declared.Map.{Map}
use Rattle.shared_maps.specs.Trees.{Memory}
use Rattle.shared_maps.specs.Maps.{IsMap, KeepsMaps, value_in}
use Rattle.shared_maps.proofs.Kept.{keeps_both}
use Rattle.shared_maps.proofs.Views.{value_outside}
use Rattle.class_world.proofs.Words.{set_here, set_there, same_or_other, length_set}
use Rattle.overrides.specs.Tables.{IsTable, IsUnited, IsWritten, value_of}

-- what `put` says of the keys below the limit, at one key and at all others
abbrev pub PutsValue : Memory → Memory → Map → Map → ℕ → Option ℕ → Type 0
PutsValue old new map put key value = (k : ℕ) → k < old.keys → value_in new put k ≡ (if k == key then value else value_in old map k)

put_here : (old new : Memory) (map put : Map) (key : ℕ) (value : Option ℕ) → key < old.keys → PutsValue old new map put key value → value_in new put key ≡ value
put_here old new map put key value lt puts = puts key lt ∙ cond-true (key == key) value (value_in old map key) (eq-eqb key key refl)

put_there : (old new : Memory) (map put : Map) (key : ℕ) (value : Option ℕ) → new.keys ≡ old.keys → PutsValue old new map put key value → (k : ℕ) → (k ≡ key → ⊥)
    → value_in new put k ≡ value_in old map k
put_there old new map put key value keys puts k other = elim (cases_lt k old.keys) [
  | inl lt ↦ puts k lt ∙ cond-false (k == key) value (value_in old map k) (ne_eqb k key other)
  | inr le ↦ value_outside new put k (omega (arith, le, keys)) ∙ sym (value_outside old map k le)
]

-- at every key, below the limit or not
put_each : (old new : Memory) (map put : Map) (key : ℕ) (value : Option ℕ) → key < old.keys → new.keys ≡ old.keys → PutsValue old new map put key value → (k : ℕ)
    → value_in new put k ≡ (if k == key then value else value_in old map k)
put_each old new map put key value lt keys puts k = elim (cases_lt k old.keys) [
  | inl small ↦ puts k small
  | inr past ↦
      value_outside new put k (omega (arith, past, keys)) ∙ sym (value_outside old map k past)
      ∙ sym (cond-false (k == key) value (value_in old map k) (ne_eqb k key (λ e. absurd (omega (arith, e, past, lt)))))
]

value_kept : (old new : Memory) (rows : List Map) → IsTable old rows → KeepsMaps old new → (a b : ℕ) → value_of new (slice_get rows a) b ≡ value_of old (slice_get rows a) b
value_kept old new rows table kept a b = go (slice_get rows a) refl
  where
    go : (o : Option Map) → slice_get rows a ≡ o → value_of new o b ≡ value_of old o b
    go None is = refl
    go (Some map) is = kept.value map (table.each a map is) b

pub table_kept : {old new : Memory} {rows : List Map} → IsTable old rows → KeepsMaps old new → IsTable new rows
table_kept table kept = record { each = λ i map at. kept.map map (table.each i map at) }

pub table_set : {old new : Memory} {rows : List Map} (m : ℕ) (map : Map) → IsTable old rows → KeepsMaps old new → IsMap new map → IsTable new (slice_set rows m map)
table_set {new = new} {rows = rows} m map table kept is = record { each = λ i x at. by i x at (same_or_other m i) }
  where
    by : (i : ℕ) (x : Map) → slice_get (slice_set rows m map) i ≡ Some x → (m ≡ i) ⊎ (m ≡ i → ⊥) → IsMap new x
    by i x at (inl here) =
        let lt : m < length rows = omega (arith, here, slice_get_within (slice_set rows m map) i x at, length_set rows m map) in
        let one : Some map ≡ Some x = sym (set_here rows m map lt) ∙ ap (slice_get (slice_set rows m map)) here ∙ at in
        let same : map ≡ x = cc one in
        subst (IsMap new) same is
    by i x at (inr there) = kept.map x (table.each i x (sym (set_there rows m i map there) ∙ at))

module _ (old new : Memory) (rows : List Map) (m key v : ℕ) (map put : Map) (table : IsTable old rows) (kept : KeepsMaps old new) where
  pub set_written : slice_get rows m ≡ Some map → key < old.keys → PutsValue old new map put key (Some v)
      → IsWritten (record { maps = old; rows = rows }) (record { maps = new; rows = slice_set rows m put }) m key v
  set_written at lt puts = record {
    here = ap (λ o. value_of new o key) (set_here rows m put within) ∙ put_here old new map put key (Some v) lt puts;
    there = λ a b other. by a b other (same_or_other m a);
  }
    where
      within : m < length rows
      within = slice_get_within rows m map at

      by : (a b : ℕ) → (a ≡ m → b ≡ key → ⊥) → (m ≡ a) ⊎ (m ≡ a → ⊥) → value_of new (slice_get (slice_set rows m put) a) b ≡ value_of old (slice_get rows a) b
      by a b other (inl same) =
          ap (λ i. value_of new (slice_get (slice_set rows m put) i) b) (sym same) ∙ ap (λ o. value_of new o b) (set_here rows m put within)
          ∙ put_there old new map put key (Some v) kept.keys puts b (other (sym same)) ∙ sym (ap (λ o. value_of old o b) at) ∙ ap (λ i. value_of old (slice_get rows i) b) same
      by a b other (inr there) = ap (λ o. value_of new o b) (set_there rows m a put there) ∙ value_kept old new rows table kept a b

-- the key is not there
pub without_none : (m : Memory) (map : Map) (key : ℕ) → value_in m map key ≡ None → PutsValue m m map map key None
without_none m map key none k lt = elim (same_or_other k key) [
  | inl same ↦ ap (value_in m map) same ∙ none ∙ sym (cond-true (k == key) None (value_in m map k) (eq-eqb k key same))
  | inr other ↦ sym (cond-false (k == key) None (value_in m map k) (ne_eqb k key other))
]

-- the rows m and t, that of t without m, the union of both, and that with t
module _ (old first second new : Memory) (rows : List Map) (m t : ℕ) (own upper above both put : Map) (table : IsTable old rows) (kept : KeepsMaps old first) (kept' : KeepsMaps first second)
    (kept'' : KeepsMaps second new) where
  pub row_united : slice_get rows m ≡ Some own → slice_get rows t ≡ Some upper → m < old.keys → t < old.keys → PutsValue old first upper above m None
      → ((k : ℕ) → value_in second both k ≡ option_or (value_in first own k) (value_in first above k)) → PutsValue second new both put t (Some 0)
      → IsUnited (record { maps = old; rows = rows }) (record { maps = new; rows = slice_set rows m put }) m t
  row_united at_m at_t small lt without union with = record {
    row = λ key.
        ap (λ o. value_of new o key) (set_here rows m put (slice_get_within rows m own at_m))
        ∙ put_each second new both put t (Some 0) (omega (arith, lt, kept.keys, kept'.keys)) kept''.keys with key
        ∙ ap (λ o. if key == t then Some 0 else o)
        (union key ∙ ap (λ o. option_or o (value_in first above key)) (kept.value own (table.each m own at_m) key ∙ sym (ap (λ o. value_of old o key) at_m))
        ∙ ap (λ o. option_or (value_of old (slice_get rows m) key) o)
        (put_each old first upper above m None small kept.keys without key ∙ ap (λ o. if key == m then None else o) (sym (ap (λ o. value_of old o key) at_t))));
    there = λ a b other.
        ap (λ o. value_of new o b) (set_there rows m a put (λ e. other (sym e))) ∙ value_kept old new rows table (keeps_both kept (keeps_both kept' kept'')) a b;
  }

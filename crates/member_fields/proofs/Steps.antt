-- What follows from the changes of the maps.
use Rattle.std.proofs.Common.{◌≡◌, ℕ, ◌+◌, ◌<◌, ◌↔◌, Bool, true, false, List, [], ◌∷◌, Option, Some, None, inl, inr, refl, sym, ap, ◌∙◌, subst, length, get_or, take}
use Rattle.std.specs.Prelude.{Contains, ◌==◌, if◌then◌else◌, Result, Ok, Err, IfOk}
use Rattle.std.specs.List.{fold}
use Rattle.std.specs.Option.{option_or}
use Rattle.std.proofs.lemmas.Bool.{cases_eq, cond-false, cond-true, eq-eqb, ne_eqb}
use Rattle.std.proofs.lemmas.List.{take_more}
use Rattle.std.proofs.lemmas.List.Sums.{fold-append}
use Rattle.shared_maps.specs.declared.Map.{Map}
use Rattle.shared_maps.specs.Trees.{Differ, Memory}
use Rattle.shared_maps.specs.Maps.{AreDiffering, KeepsMaps, value_in}
use Rattle.shared_maps.proofs.Kept.{keeps_both}
use Rattle.member_fields.specs.Values.{Changes, joined, several_at}
use Rattle.member_fields.specs.Sums.{HasMap, Summarizes, Sums}
use Rattle.member_fields.proofs.Lists.{front_cases, contains_first, contains_later, none_contained}

-- a loop over a list
pub changes_next : {A : Type 0} (old now new : Memory) (start map r : Map) (g : ℕ → Option ℕ → A → Option ℕ) (xs : List A) (i : ℕ) (d : A) → i < length xs
    → Changes old now start (λ k v. fold (g k) v (take i xs)) map → Changes now new map (λ k v. g k v (get_or xs i d)) r → Changes old new start (λ k v. fold (g k) v (take (i + 1) xs)) r
changes_next old now new start map r g xs i d lt before step = record {
  is_map = step.is_map;
  kept = keeps_both before.kept step.kept;
  value = λ k below.
      step.value k (subst (λ n. k < n) (sym before.kept.keys) below)
      ∙ ap (λ v. g k v (get_or xs i d)) (before.value k below)
      ∙ sym (fold-append (g k) (value_in old start k) (take i xs) (get_or xs i d ∷ []))
      ∙ ap (fold (g k) (value_in old start k)) (sym (take_more xs i d lt));
}

-- several fields of each of some names

several_stays : (names : List ℕ) (k : ℕ) → fold (several_at k) (Some 0) names ≡ Some 0
several_stays [] k = refl
several_stays (name ∷ names) k = ap (λ v. fold (several_at k) v names) (split (k == name) (Some 0)) ∙ several_stays names k
  where
    split : (b : Bool) (v : Option ℕ) → (if b then v else v) ≡ v
    split true v = refl
    split false v = refl

several_of : (names : List ℕ) (k : ℕ) (v : Option ℕ) → Contains names k → fold (several_at k) v names ≡ Some 0
several_of [] k v has = absurd (none_contained k has)
several_of (name ∷ names) k v has = elim (front_cases name names k has) [
  | inl same ↦ ap (λ x. fold (several_at k) x names) (cond-true (k == name) (Some 0) v (eq-eqb k name same)) ∙ several_stays names k
  | inr later ↦ several_of names k (several_at k v name) later
]

several_of_others : (names : List ℕ) (k : ℕ) (v : Option ℕ) → (Contains names k → ⊥) → fold (several_at k) v names ≡ v
several_of_others [] k v none = refl
several_of_others (name ∷ names) k v none =
    ap (λ x. fold (several_at k) x names)
    (cond-false (k == name) (Some 0) v (ne_eqb k name (λ same. none (subst (Contains (name ∷ names)) (sym same) (contains_first name names)))))
    ∙ several_of_others names k v (λ has. none (contains_later name names k has))

-- over what one of two values or the other has, where they differ
several_join : (names : List ℕ) (k : ℕ) (a b : Option ℕ) → (Contains names k ↔ Differ a b) → fold (several_at k) (option_or a b) names ≡ joined a b
several_join names k None b are = several_of_others names k b (λ has. let d = are.0 has in let so : None ≡ Some d.0 = d.2 in absurd (cc so))
several_join names k (Some x) None are = several_of_others names k (Some x) (λ has. let d = are.0 has in let so : None ≡ Some d.1 = d.3 in absurd (cc so))
several_join names k (Some x) (Some y) are = elim (cases_eq x y) [
  | inl same ↦
      several_of_others names k (Some x)
      (λ has. let d = are.0 has in let left : Some x ≡ Some d.0 = d.2 in let right : Some y ≡ Some d.1 = d.3 in absurd (d.4 (let so : d.0 ≡ d.1 = cc (left, right, same) in so)))
      ∙ sym (cond-true (x == y) (Some x) (Some 0) (eq-eqb x y same))
  | inr other ↦ several_of names k (Some x) (are.1 (x, y, refl, refl, other)) ∙ sym (cond-false (x == y) (Some x) (Some 0) (ne_eqb x y other))
]

pub several_merged : (old mid new : Memory) (a b both r : Map) (names : List ℕ) → AreDiffering (value_in old a) (value_in old b) names → KeepsMaps old mid
    → ((k : ℕ) → value_in mid both k ≡ option_or (value_in old a k) (value_in old b k)) → Changes mid new both (λ k v. fold (several_at k) v names) r
    → Changes old new a (λ k v. joined v (value_in old b k)) r
several_merged old mid new a b both r names are kept union changes = record {
  is_map = changes.is_map;
  kept = keeps_both kept changes.kept;
  value = λ k below.
      changes.value k (subst (λ n. k < n) (sym kept.keys) below) ∙ ap (λ v. fold (several_at k) v names) (union k)
      ∙ several_join names k (value_in old a k) (value_in old b k) (are.each k);
}

-- what maps say in a later memory

pub sums_kept : {old new : Memory} {P : ℕ → ℕ → Type 0} {map : Map} → KeepsMaps old new → Sums old P map → Sums new P map
sums_kept {old} {new} {P} {map} kept h = record {
  is_map = kept.map map h.is_map;
  sums = λ n below. subst (Summarizes (P n)) (sym (kept.value map h.is_map n)) (h.sums n (subst (λ k. n < k) kept.keys below));
}

pub has_kept : (old new : Memory) (P : ℕ → ℕ → Type 0) (listed : List Map) (c : ℕ) → KeepsMaps old new → HasMap old listed P c → HasMap new listed P c
has_kept old new P listed c kept h = (h.0, h.1, sums_kept kept h.2)

pub sums_changed : {old new : Memory} {P Q : ℕ → ℕ → Type 0} {map r : Map} (step : ℕ → Option ℕ → Option ℕ) → Changes old new map step r → Sums old P map
    → ((n : ℕ) (v : Option ℕ) → n < old.keys → Summarizes (P n) v → Summarizes (Q n) (step n v)) → Sums new Q r
sums_changed {old} {new} {P} {Q} {map} {r} step changes h to = record {
  is_map = changes.is_map;
  sums = λ n below.
      let was : n < old.keys = subst (λ k. n < k) changes.kept.keys below in
      subst (Summarizes (Q n)) (sym (changes.value n was)) (to n (value_in old map n) was (h.sums n was));
}

pub if_ok : {A E : Type 0} {P Q : A → Type 0} (r : Result A E) → IfOk r P → ((x : A) → P x → Q x) → IfOk r Q
if_ok (Ok x) p to = to x p
if_ok (Err e) p to = tt

-- The values that the maps of a memory have.
use Rattle.std.proofs.Common.{◌≡◌, ℕ, ◌-◌, ◌^◌, ◌<◌, ◌≤◌, Bool, true, false, cond, List, [], Option, Some, None, inl, inr, refl, sym, ap, ◌∙◌, subst, arith}
use Rattle.std.specs.Prelude.{◌==◌, nat_lt, if◌then◌else◌}
use Rattle.std.specs.Option.{option_or}
use Rattle.std.proofs.lemmas.Bool.{cases_lt, lt-ltb, le-ltb, ltb-true, ne_eqb, cond-true, cond-false}
use Rattle.shared_maps.specs.declared.Map.{Map}
use Rattle.shared_maps.specs.Trees.{Adds, DiffersIn, Grows, IsArena, Memory, entries_at, value_at}
use Rattle.shared_maps.specs.Maps.{AreDiffering, AreEntries, KeepsMaps, value_in}
use Rattle.shared_maps.proofs.Nodes.{IsBare}
use Rattle.shared_maps.proofs.Walks.{IsWith, value_bare, value_kept}
use Rattle.shared_maps.proofs.Listed.{is_listed, listed_ascend, listed_is}
use Rattle.shared_maps.proofs.Unions.{IsUnion}
use Rattle.shared_maps.proofs.Differing.{differ_same}

pub value_inside : (m : Memory) (map : Map) (key : ℕ) → key < m.keys → value_in m map key ≡ value_at m.nodes m.height map.number key
unfolding value_in
value_inside m map key lt = cond-true (nat_lt key m.keys) (value_at m.nodes m.height map.number key) None (lt-ltb key m.keys lt)

pub value_outside : (m : Memory) (map : Map) (key : ℕ) → m.keys ≤ key → value_in m map key ≡ None
unfolding value_in
value_outside m map key le = cond-false (nat_lt key m.keys) (value_at m.nodes m.height map.number key) None (le-ltb key m.keys le)

-- a key with a value is below the limit
pub value_within : (m : Memory) (map : Map) (key v : ℕ) → value_in m map key ≡ Some v → key < m.keys
unfolding value_in
value_within m map key v is = ltb-true key m.keys (by (nat_lt key m.keys) (value_at m.nodes m.height map.number key) is)
  where
    by : (b : Bool) (o : Option ℕ) → cond b o None ≡ Some v → b ≡ true
    by true o e = refl
    by false o e = absurd (cc e)

pub none_in : (m : Memory) (map : Map) → IsArena m.nodes → IsBare m.nodes map.number → (key : ℕ) → value_in m map key ≡ None
none_in m map arena bare key = elim (cases_lt key m.keys) [
  | inl lt ↦ value_inside m map key lt ∙ value_bare m.nodes arena m.height map.number key bare
  | inr le ↦ value_outside m map key le
]

-- the same keys and levels, with more nodes
pub keeps_grown : (old new : Memory) → new.keys ≡ old.keys → new.height ≡ old.height → IsArena old.nodes → Grows old.nodes new.nodes → KeepsMaps old new
keeps_grown old new keys height arena grows = record {
  keys = keys;
  map = λ map is. record { within = omega (arith, is.within, grows.size) };
  value = λ map is key.
      let same : value_at new.nodes new.height map.number key ≡ value_at old.nodes old.height map.number key =
      ap (λ n. value_at new.nodes n map.number key) height ∙ value_kept old.nodes new.nodes arena grows old.height map.number key is.within in
      elim (cases_lt key old.keys) [
        | inl lt ↦ value_inside new map key (omega (arith, lt, keys)) ∙ same ∙ sym (value_inside old map key lt)
        | inr le ↦ value_outside new map key (omega (arith, le, keys)) ∙ sym (value_outside old map key le)
      ];
}

pub put_in : (old new : Memory) (map put : Map) (key : ℕ) (value : Option ℕ) → new.keys ≡ old.keys → new.height ≡ old.height → old.keys ≤ 2 ^ old.height
    → IsWith old.nodes map.number new.nodes old.height put.number key value → (k : ℕ) → k < old.keys → value_in new put k ≡ (if k == key then value else value_in old map k)
put_in old new map put key value keys height enough is k lt =
    value_inside new put k (omega (arith, lt, keys)) ∙ ap (λ n. value_at new.nodes n put.number k) height ∙ is.each k (omega (arith, lt, enough))
    ∙ ap (λ o. if k == key then value else o) (sym (value_inside old map k lt))

-- a key that is not below the limit
pub put_outside : (m : Memory) (map put : Map) (key : ℕ) (value : Option ℕ) → m.keys ≤ key → ((k : ℕ) → value_in m put k ≡ value_in m map k) → (k : ℕ) → k < m.keys
    → value_in m put k ≡ (if k == key then value else value_in m map k)
put_outside m map put key value past same k lt =
    same k ∙ sym (cond-false (k == key) value (value_in m map k) (ne_eqb k key (λ e. absurd (omega (arith, e, past, lt)))))

pub are_entries : (m : Memory) (map : Map) → m.keys ≤ 2 ^ m.height → AreEntries (value_in m map) (entries_at m.nodes m.keys m.height map.number 0)
are_entries m map enough = record {
  each = λ k v. (
    λ has.
        let h = listed_is m.nodes m.keys m.height map.number 0 k v has in
        value_inside m map k h.small ∙ ap (value_at m.nodes m.height map.number) (let e : k ≡ k - 0 = omega arith in e) ∙ h.value,
    λ is.
        let small = value_within m map k v is in
        let e : k - 0 ≡ k = omega arith in
        is_listed m.nodes m.keys m.height map.number 0 k v (record {
          low = omega arith;
          high = omega (arith, small, enough);
          small = small;
          value = ap (value_at m.nodes m.height map.number) e ∙ sym (value_inside m map k small) ∙ is;
        }),
  );
  ascending = listed_ascend m.nodes m.keys m.height map.number 0;
}

-- l and r are the trees of left and of right
pub union_in : (old new : Memory) (left right both : Map) (l r : ℕ) → new.keys ≡ old.keys → new.height ≡ old.height → old.keys ≤ 2 ^ old.height
    → ((k : ℕ) → value_at old.nodes old.height l k ≡ value_at old.nodes old.height left.number k) → ((k : ℕ) → value_at old.nodes old.height r k ≡ value_at old.nodes old.height right.number k)
    → IsUnion old.nodes l r new.nodes old.height both.number → (k : ℕ) → value_in new both k ≡ option_or (value_in old left k) (value_in old right k)
union_in old new left right both l r keys height enough is_left is_right is k = elim (cases_lt k old.keys) [
  | inl lt ↦
      value_inside new both k (omega (arith, lt, keys)) ∙ ap (λ n. value_at new.nodes n both.number k) height ∙ is.each k (omega (arith, lt, enough))
      ∙ ap (λ o. option_or o (value_at old.nodes old.height r k)) (is_left k ∙ sym (value_inside old left k lt))
      ∙ ap (λ o. option_or (value_in old left k) o) (is_right k ∙ sym (value_inside old right k lt))
  | inr past ↦
      value_outside new both k (omega (arith, past, keys)) ∙ sym (value_outside old right k past)
      ∙ ap (λ o. option_or o (value_in old right k)) (sym (value_outside old left k past))
]

pub are_differing : (m : Memory) (left right : Map) (keys : List ℕ) → m.keys ≤ 2 ^ m.height → Adds [] keys (DiffersIn m.nodes m.keys m.height left.number right.number 0)
    → AreDiffering (value_in m left) (value_in m right) keys
are_differing m left right keys enough h = subst (AreDiffering (value_in m left) (value_in m right)) (sym h.added) (record {
  each = λ k.
      let e : k - 0 ≡ k = omega arith in (
        λ has.
            let is = (h.each k).0 has in
            differ_same (value_at m.nodes m.height left.number (k - 0)) (value_in m left k) (value_at m.nodes m.height right.number (k - 0)) (value_in m right k)
            (ap (value_at m.nodes m.height left.number) e ∙ sym (value_inside m left k is.small)) (ap (value_at m.nodes m.height right.number) e ∙ sym (value_inside m right k is.small)) is.values,
        λ is.
            let small = value_within m left k is.0 is.2 in
            (h.each k).1 (record {
              low = omega arith;
              high = omega (arith, small, enough);
              small = small;
              values =
                  differ_same (value_in m left k) (value_at m.nodes m.height left.number (k - 0)) (value_in m right k) (value_at m.nodes m.height right.number (k - 0))
                  (value_inside m left k small ∙ ap (value_at m.nodes m.height left.number) (sym e)) (value_inside m right k small ∙ ap (value_at m.nodes m.height right.number) (sym e)) is;
            }),
      );
  ascending = h.ascending;
})

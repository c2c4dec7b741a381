-- What is met upwards from a class, when those above it are done.
use Rattle.std.proofs.Common.{◌≡◌, ℕ, ◌+◌, ◌<◌, ◌≤◌, zero, suc, List, [], ◌∷◌, Option, Some, None, inl, inr, refl, sym, ap, ◌∙◌, subst, length, arith}
use Rattle.std.specs.Prelude.{slice_get, slice_set, unwrap_or, IfSome}
use Rattle.std.specs.List.{Contains}
use Rattle.std.proofs.lemmas.Option.{slice_get_within}
use Rattle.class_world.specs.declared.world.World.{World}
use Rattle.class_world.specs.Overriding.{IsSuperclass}
use Rattle.class_world.specs.Sequences.{IsSequence}
use Rattle.class_world.proofs.Words.{set_here, set_there, same_or_other, length_set}
use Rattle.overrides.specs.Tables.{Rows, AreOfOneSize, value_at}
use Rattle.overrides.proofs.Places.{low_or_last}
use Rattle.found_methods.specs.declared.own.Own.{Own}
use Rattle.found_methods.specs.declared.firsts.Firsts.{Firsts}
use Rattle.found_methods.specs.Own.{LowestIs, HoldsOwn}
use Rattle.found_methods.specs.Tables.{first_of, IsBegun, IsOverlaid}
use Rattle.found_methods.specs.Firsts.{IsOnlySuperclass, here, up, Meets, HoldsFirsts, IsAdded, end_with}
use Rattle.found_methods.specs.Supers.{AreSuperclasses}
use Rattle.found_methods.proofs.Owns.{lowest_all}

-- the one superclass of a list
pub only_superclass : (w : World) (supers : List (List ℕ)) (c s : ℕ) (list : List ℕ) → AreSuperclasses w supers → slice_get supers c ≡ Some list → list ≡ s ∷ [] → IsOnlySuperclass w c s
only_superclass w supers c s list are at one = (
  (are.each c list at s).0 (subst (λ xs. Contains xs s) (sym one) (0, omega arith, refl)),
  λ x is. single x (subst (λ xs. Contains xs x) one ((are.each c list at x).1 is)),
)
  where
    single : (x : ℕ) → Contains (s ∷ []) x → x ≡ s
    single x (zero, lt, e) = sym e
    single x (suc k, lt, e) = absurd (omega (arith, lt))

module _ (w : World) (labels : List ℕ) where
  meets_up : (l c s end : ℕ) (v : Option ℕ) → LowestIs w labels l c None → IsOnlySuperclass w c s → Meets w labels l s end v → Meets w labels l c end v
  meets_up l c s end None none only h = (up none only h.0, h.1)
  meets_up l c s end (Some k) none only h = (h.0, up none only h.1, h.2)

  -- a class begins as nothing: the search ends there
  pub meets_alone : (l c : ℕ) (own : Option ℕ) → LowestIs w labels l c own → Meets w labels l c c (first_of own None)
  meets_alone l c None none = (here, none)
  meets_alone l c (Some k) lowest = (c, here, lowest)

  -- or as its only superclass
  pub meets_above : (l c s end : ℕ) (own v : Option ℕ) → IsOnlySuperclass w c s → LowestIs w labels l c own → Meets w labels l s end v → Meets w labels l c end (first_of own v)
  meets_above l c s end None v only none h = meets_up l c s end v none only h
  meets_above l c s end (Some k) v only lowest h = (c, here, lowest)

  module _ (own : Own) (holds : HoldsOwn w labels (length w.methods) own) (old new : Firsts) (c : ℕ) where
    own_is : (l : ℕ) → LowestIs w labels l c (value_at own.table c l)
    own_is l = lowest_all w labels l c (value_at own.table c l) (holds.lowest l c)

    pub added_holds : (from : Option ℕ) → IsAdded old new c from (value_at own.table c) → IfSome from (λ s. IsOnlySuperclass w c s × HoldsFirsts w labels old s) → HoldsFirsts w labels new c
    added_holds None added h =
        (c, added.end, λ l. subst (Meets w labels l c c) (sym (added.values l)) (meets_alone l c (value_at own.table c l) (own_is l)))
    added_holds (Some s) added h =
        let above = h.1 in
        (above.0, added.end ∙ ap (λ o. Some (unwrap_or o c)) above.1, λ l. subst (Meets w labels l c above.0) (sym (added.values l)) (meets_above l c s above.0 (value_at own.table c l) (value_at old.table s l) h.0 (own_is l) (above.2 l)))

    pub others_hold : (from : Option ℕ) (own : ℕ → Option ℕ) → IsAdded old new c from own → (d : ℕ) → (d ≡ c → ⊥) → HoldsFirsts w labels old d → HoldsFirsts w labels new d
    others_hold from own added d other h = (h.0, added.ends d other ∙ h.1, λ l. subst (Meets w labels l d h.0) (sym (added.others d l other)) (h.2 l))

    pub next_holds : (order : List ℕ) (i : ℕ) (from : Option ℕ) → slice_get order i ≡ Some c → IsAdded old new c from (value_at own.table c) → IfSome from (λ s. IsOnlySuperclass w c s × HoldsFirsts w labels old s)
        → ((j d : ℕ) → j < i → slice_get order j ≡ Some d → HoldsFirsts w labels old d) → (j d : ℕ) → j < i + 1 → slice_get order j ≡ Some d → HoldsFirsts w labels new d
    next_holds order i from at added above before j d lt there = elim (same_or_other d c) [
      | inl same ↦ subst (HoldsFirsts w labels new) (sym same) (added_holds from added above)
      | inr other ↦ elim (low_or_last j i lt) [
        | inl low ↦ others_hold from (value_at own.table c) added d other (before j d low there)
        | inr last ↦ absurd (other (let one = sym there ∙ ap (slice_get order) last ∙ at in cc one))
      ]
    ]

-- the only superclass comes before
pub above_done : (w : World) (order : List ℕ) (P : ℕ → Type 0) (i c s : ℕ) → IsSequence w order → slice_get order i ≡ Some c → IsSuperclass w c s → ((j d : ℕ) → j < i → slice_get order j ≡ Some d → P d) → P s
above_done w order P i c s seq at is before = let direct = is.1 in let found = seq.before i c s direct.0 at direct.1 in before found.0 s found.1 found.2

pub all_done : (w : World) (order : List ℕ) (P : ℕ → Type 0) (i : ℕ) → IsSequence w order → length order ≤ i → ((j d : ℕ) → j < i → slice_get order j ≡ Some d → P d) → (c : ℕ) → c < length w.types → P c
all_done w order P i seq past before c known = let found = seq.all c known in let lt = slice_get_within order found.0 c found.1 in before found.0 c (omega (arith, lt, past)) found.1

pub only_within : (w : World) (supers : List (List ℕ)) (c s : ℕ) (list : List ℕ) → AreSuperclasses w supers → slice_get supers c ≡ Some list → list ≡ s ∷ [] → s < length w.types
only_within w supers c s list are at one = let only = only_superclass w supers c s list are at one in let class = only.0.2 in slice_get_within w.types s class.0 class.1

-- a row that began as another, with values over it
pub added_is : (old new : Firsts) (mid : Rows) (c e : ℕ) (from : Option ℕ) (value : ℕ → Option ℕ) → AreOfOneSize old.table mid → IsBegun old.table mid c from → AreOfOneSize mid new.table → IsOverlaid mid new.table c value
    → c < length old.ends.items → new.ends.items ≡ slice_set old.ends.items c e → e ≡ end_with old.ends.items from c → IsAdded old new c from value
added_is old new mid c e from value first begun second over lt ends is = record {
  sized = λ classes limit s. record {
    rows = second.rows ∙ first.rows ∙ s.rows;
    keys = second.keys ∙ first.keys ∙ s.keys;
    ends = ap length ends ∙ length_set old.ends.items c e ∙ s.ends;
  };
  values = λ l. over.here l ∙ ap (first_of (value l)) (begun.here l);
  end = ap (λ xs. slice_get xs c) ends ∙ set_here old.ends.items c e lt ∙ ap (λ x. Some x) is;
  others = λ d l other. over.there d l other ∙ begun.there d l other;
  ends = λ d other. ap (λ xs. slice_get xs d) ends ∙ set_there old.ends.items c d e (λ x. other (sym x));
}

pub end_is : (ends : List ℕ) (from : Option ℕ) (c s e : ℕ) → from ≡ Some s → slice_get ends s ≡ Some e → e ≡ end_with ends from c
end_is ends from c s e is at = sym (ap (λ o. end_with ends o c) is ∙ ap (λ o. unwrap_or o c) at)

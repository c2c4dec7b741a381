-- Marks that are set, and the stack of those marked.
use Rattle.std.proofs.Common.{◌≡◌, ℕ, ◌+◌, List, [], ◌∷◌, ◌++◌, Some, ◌⊎◌, inl, inr, ◌↔◌, refl, sym, ap, ◌∙◌, subst, length, arith, nat_eq, true, false, Bool}
use Rattle.std.specs.Prelude.{slice_get, slice_set, slice_index_or as get_or, if◌then◌else◌, ◌==◌}
use Rattle.std.specs.List.{Contains}
use Rattle.std.proofs.lemmas.Option.{slice_get_within, get_or_from_slice_get}
use Rattle.std.proofs.lemmas.List.Sums.{sum_by-set}
use Rattle.std.proofs.lemmas.List.Elements.{Contains-append_left, Contains-append_right, Contains-append_cases}
use Rattle.std.proofs.lemmas.Bool.{eqb-true}
use Rattle.rule_order.proofs.Lists.{in_none, in_first, in_cases}
use Rattle.class_world.proofs.Words.{set_here, set_there, same_or_other}
use Rattle.override_rules.specs.Judged.{IsMarked, Pushes, unmarked}

-- what is not marked yet
abbrev pub weight_of : ℕ → ℕ → ℕ
weight_of stamp x = if x == stamp then 0 else 1

weight_same : (stamp : ℕ) → weight_of stamp stamp ≡ 0
weight_same stamp = go (nat_eq stamp stamp) refl
  where
    go : (b : Bool) → nat_eq stamp stamp ≡ b → weight_of stamp stamp ≡ 0
    go true e = rw e refl
    go false e = absurd (grind (arith, e))

weight_other : (stamp x : ℕ) → (x ≡ stamp → ⊥) → weight_of stamp x ≡ 1
weight_other stamp x other = go (nat_eq x stamp) refl
  where
    go : (b : Bool) → nat_eq x stamp ≡ b → weight_of stamp x ≡ 1
    go true e = absurd (other (eqb-true x stamp e))
    go false e = rw e refl

-- a mark that is set makes one unmarked less
pub mark_less : (stamp : ℕ) (marks : List ℕ) (k x : ℕ) → slice_get marks k ≡ Some x → (x ≡ stamp → ⊥) → unmarked stamp (slice_set marks k stamp) + 1 ≡ unmarked stamp marks
mark_less stamp marks k x at other =
    let changed = sum_by-set (weight_of stamp) marks k stamp 0 (slice_get_within marks k x at) in
    let was : weight_of stamp (get_or marks k 0) ≡ 1 = ap (weight_of stamp) (get_or_from_slice_get marks k x 0 at) ∙ weight_other stamp x other in
    let now = weight_same stamp in
    omega (arith, changed, was, now)

module _ (stamp : ℕ) (P Q : ℕ → Type 0) (old marks stack mid : List ℕ) (x : ℕ) (pushes : Pushes P stamp old marks stack mid) (next : (k : ℕ) → Q k ↔ (P k ⊎ (k ≡ x))) where
  -- one that has its mark
  pub push_marked : IsMarked marks stamp x → Pushes Q stamp old marks stack mid
  push_marked mark = record {
    all = λ k q. elim ((next k).0 q) [ inl p ↦ pushes.all k p | inr e ↦ subst (IsMarked marks stamp) (sym e) mark ];
    only = λ k m. elim (pushes.only k m) [ inl was ↦ inl was | inr p ↦ inr ((next k).1 (inl p)) ];
    kept = pushes.kept;
    others = pushes.others;
    stacked = pushes.stacked;
    still = pushes.still;
    marked = pushes.marked;
    room = pushes.room;
  }

  -- one that has none
  pub push_one : (new more : List ℕ) (y : ℕ) → slice_get marks x ≡ Some y → (y ≡ stamp → ⊥) → new ≡ slice_set marks x stamp → more ≡ mid ++ x ∷ [] → Pushes Q stamp old new stack more
  push_one new more y at other made longer = record {
    all = λ k q. elim ((next k).0 q) [ inl p ↦ up k (pushes.all k p) | inr e ↦ subst (IsMarked new stamp) (sym e) here ];
    only = λ k m. elim (back stamp k m) [ inl h ↦ inr ((next k).1 (inr h.1)) | inr was ↦ elim (pushes.only k was) [ inl first ↦ inl first | inr p ↦ inr ((next k).1 (inl p)) ] ];
    kept = λ k mark. up k (pushes.kept k mark);
    others = λ s k m. elim (back s k m) [ inl h ↦ inl h.0 | inr was ↦ pushes.others s k was ];
    stacked = λ k m. elim (back stamp k m) [
      | inl h ↦ inr (subst (λ l. Contains l k) (sym longer) (Contains-append_right mid (x ∷ []) k (subst (Contains (x ∷ [])) (sym h.1) (in_first x []))))
      | inr was ↦ elim (pushes.stacked k was) [ inl first ↦ inl first | inr on ↦ inr (left k on) ]
    ];
    still = λ k on. left k (pushes.still k on);
    marked = λ k on. elim (Contains-append_cases mid (x ∷ []) k (subst (λ l. Contains l k) longer on)) [
      | inl low ↦ elim (pushes.marked k low) [ inl first ↦ inl first | inr mark ↦ inr (up k mark) ]
      | inr last ↦ elim (in_cases x k [] last) [ inl e ↦ inr (subst (IsMarked new stamp) (sym e) here) | inr none ↦ absurd (in_none k none) ]
    ];
    room =
        let less = mark_less stamp marks x y at other in
        let count : length more ≡ length mid + 1 = ap length longer ∙ length_more mid x in
        let was = pushes.room in
        let now : unmarked stamp new + 1 ≡ unmarked stamp marks = ap (λ l. unmarked stamp l + 1) made ∙ less in
        omega (arith, count, was, now);
  }
    where
      here : IsMarked new stamp x
      here = ap (λ l. slice_get l x) made ∙ set_here marks x stamp (slice_get_within marks x y at)

      up : (k : ℕ) → IsMarked marks stamp k → IsMarked new stamp k
      up k mark = elim (same_or_other x k) [
        | inl e ↦ subst (IsMarked new stamp) e here
        | inr apart ↦ ap (λ l. slice_get l k) made ∙ set_there marks x k stamp apart ∙ mark
      ]

      back : (s k : ℕ) → IsMarked new s k → ((s ≡ stamp) × (k ≡ x)) ⊎ IsMarked marks s k
      back s k mark = elim (same_or_other x k) [
        | inl e ↦ let both = sym mark ∙ subst (IsMarked new stamp) e here in let same : s ≡ stamp = cc both in inl (same, sym e)
        | inr apart ↦ inr (sym (ap (λ l. slice_get l k) made ∙ set_there marks x k stamp apart) ∙ mark)
      ]

      left : (k : ℕ) → Contains mid k → Contains more k
      left k on = subst (λ l. Contains l k) (sym longer) (Contains-append_left mid (x ∷ []) k on)

      length_more : (l : List ℕ) (z : ℕ) → length (l ++ z ∷ []) ≡ length l + 1
      length_more [] z = refl
      length_more (a ∷ l) z = let rest = length_more l z in omega (arith, rest)

-- the same methods, said otherwise
pub pushes_alike : (stamp : ℕ) (P Q : ℕ → Type 0) (old new stack more : List ℕ) → ((k : ℕ) → P k ↔ Q k) → Pushes P stamp old new stack more → Pushes Q stamp old new stack more
pushes_alike stamp P Q old new stack more alike pushes = record {
  all = λ k q. pushes.all k ((alike k).1 q);
  only = λ k m. elim (pushes.only k m) [ inl was ↦ inl was | inr p ↦ inr ((alike k).0 p) ];
  kept = pushes.kept;
  others = pushes.others;
  stacked = pushes.stacked;
  still = pushes.still;
  marked = pushes.marked;
  room = pushes.room;
}

-- Labels that are put together, and the families that they stand for.
use Rattle.std.proofs.Common.{◌≡◌, ℕ, ◌<◌, List, Some, ◌⊎◌, ◌↔◌, inl, inr, sym, ap, ◌∙◌, subst, length, arith}
use Rattle.std.specs.Prelude.{slice_get}
use Rattle.std.specs.List.{Contains}
use Rattle.std.specs.List.Sorted.{IsStrictlyIncreasing}
use Rattle.std.proofs.lemmas.Option.{slice_get_within}
use Rattle.class_world.specs.declared.world.World.{World}
use Rattle.class_world.specs.Overriding as by
use Rattle.class_world.specs.Overriding.{OverridesAtOnce, Overriding, IsFamily}
use Rattle.class_world.proofs.Substs.{there_is}
use Rattle.class_world.proofs.Words.{same_or_other}
use Rattle.overrides.specs.Families.{AreAlike, IsRelabelled, IsMerged, AreMerging, AreLabels, IsGroup}
use Rattle.overrides.specs.Overrides.{HoldsOverrides}
use Rattle.overrides.specs.declared.Overrides.{Overrides}

-- ---- families

family_on : {w : World} {m k x : ℕ} → IsFamily w m k → IsFamily w k x → IsFamily w m x
family_on f by.itself = f
family_on f (by.above g h) = by.above (family_on f g) h
family_on f (by.below g h) = by.below (family_on f g) h

family_back : {w : World} {m k : ℕ} → IsFamily w m k → IsFamily w k m
family_back by.itself = by.itself
family_back (by.above f h) = family_on (by.below by.itself h) (family_back f)
family_back (by.below f h) = family_on (by.above by.itself h) (family_back f)

-- ---- labels

alike_back : (labels : List ℕ) (x y : ℕ) → AreAlike labels x y → AreAlike labels y x
alike_back labels x y h = (h.0, h.2, h.1)

alike_on : (labels : List ℕ) (x y z : ℕ) → AreAlike labels x y → AreAlike labels y z → AreAlike labels x z
alike_on labels x y z a b = let one : Some b.0 ≡ Some a.0 = sym b.1 ∙ a.2 in (a.0, a.1, b.2 ∙ one)

alike_itself : (labels : List ℕ) (x : ℕ) → x < length labels → AreAlike labels x x
alike_itself labels x lt = let at = there_is labels x lt in (at.0, at.1, at.1)

-- two labels become one
module _ (old new : List ℕ) (from into : ℕ) (relabelled : IsRelabelled old new from into) where
  new_label : (x l : ℕ) → slice_get old x ≡ Some l → (slice_get new x ≡ Some l) ⊎ ((slice_get new x ≡ Some into) × (l ≡ from))
  new_label x l at = elim (same_or_other l from) [
    | inl same ↦ inr (relabelled.moved x (at ∙ ap (λ i. Some i) same), same)
    | inr other ↦ inl (relabelled.kept x l at other)
  ]

  relabel_kept : (x y : ℕ) → AreAlike old x y → AreAlike new x y
  relabel_kept x y h = elim (same_or_other h.0 from) [
    | inl same ↦ (into, relabelled.moved x (h.1 ∙ ap (λ i. Some i) same), relabelled.moved y (h.2 ∙ ap (λ i. Some i) same))
    | inr other ↦ (h.0, relabelled.kept x h.0 h.1 other, relabelled.kept y h.0 h.2 other)
  ]

  -- the numbers x and y were of one label, or of the two
  relabel_only : (x y : ℕ) → AreAlike new x y → AreAlike old x y ⊎ ((slice_get old x ≡ Some from) × (slice_get old y ≡ Some into)) ⊎ ((slice_get old x ≡ Some into) × (slice_get old y ≡ Some from))
  relabel_only x y h =
      let a = there_is old x (omega (arith, slice_get_within new x h.0 h.1, relabelled.size)) in
      let b = there_is old y (omega (arith, slice_get_within new y h.0 h.2, relabelled.size)) in
      elim (new_label x a.0 a.1) [
        | inl stays ↦ elim (new_label y b.0 b.1) [
          | inl also ↦ let one : Some b.0 ≡ Some a.0 = sym also ∙ h.2 ∙ sym h.1 ∙ stays in inl (a.0, a.1, b.1 ∙ one)
          | inr moves ↦ let one : Some a.0 ≡ Some into = sym stays ∙ h.1 ∙ sym h.2 ∙ moves.0 in inr (inr (a.1 ∙ one, b.1 ∙ ap (λ i. Some i) moves.1))
        ]
        | inr moves ↦ elim (new_label y b.0 b.1) [
          | inl stays ↦ let one : Some b.0 ≡ Some into = sym stays ∙ h.2 ∙ sym h.1 ∙ moves.0 in inr (inl (a.1 ∙ ap (λ i. Some i) moves.1, b.1 ∙ one))
          | inr also ↦ inl (from, a.1 ∙ ap (λ i. Some i) moves.1, b.1 ∙ ap (λ i. Some i) also.1)
        ]
      ]

-- the first number's label goes
pub merged_first : (old new : List ℕ) (m k a b : ℕ) → slice_get old m ≡ Some a → slice_get old k ≡ Some b → (a ≡ b → ⊥) → IsRelabelled old new a b → IsMerged old new m k
merged_first old new m k a b at there other relabelled = record {
  size = relabelled.size;
  kept = relabel_kept old new a b relabelled;
  here = (b, relabelled.moved m at, relabelled.kept k b there (λ e. other (sym e)));
  only = λ x y h. elim (relabel_only old new a b relabelled x y h) [
    | inl was ↦ inl was
    | inr (inl two) ↦ inr (inl ((a, two.0, at), (b, there, two.1)))
    | inr (inr two) ↦ inr (inr ((b, two.0, there), (a, at, two.1)))
  ];
}

-- the second one's
pub merged_second : (old new : List ℕ) (m k a b : ℕ) → slice_get old m ≡ Some a → slice_get old k ≡ Some b → (a ≡ b → ⊥) → IsRelabelled old new b a → IsMerged old new m k
merged_second old new m k a b at there other relabelled = record {
  size = relabelled.size;
  kept = relabel_kept old new b a relabelled;
  here = (a, relabelled.kept m a at other, relabelled.moved k there);
  only = λ x y h. elim (relabel_only old new b a relabelled x y h) [
    | inl was ↦ inl was
    | inr (inl two) ↦ inr (inr ((b, two.0, there), (a, at, two.1)))
    | inr (inr two) ↦ inr (inl ((a, two.0, at), (b, there, two.1)))
  ];
}

-- ---- labels and families

pub merging_begins : (w : World) (labels : List ℕ) → length labels ≡ length w.methods → ((m k : ℕ) → AreAlike labels m k → m ≡ k) → AreMerging w labels
merging_begins w labels size apart = record { size = size; sound = λ m k h. subst (IsFamily w m) (apart m k h) by.itself }

pub merging_on : (w : World) (old new : List ℕ) (m k : ℕ) → AreMerging w old → IsMerged old new m k → OverridesAtOnce w m k → AreMerging w new
merging_on w old new m k merging merged edge = record {
  size = merged.size ∙ merging.size;
  sound = λ x y h. elim (merged.only x y h) [
    | inl was ↦ merging.sound x y was
    | inr (inl two) ↦ family_on (by.above (merging.sound x m two.0) (by.at_once edge)) (merging.sound k y two.1)
    | inr (inr two) ↦ family_on (by.below (merging.sound x k two.0) (by.at_once edge)) (merging.sound m y two.1)
  ];
}

module _ (w : World) (labels : List ℕ) (all : (m t : ℕ) → OverridesAtOnce w m t → AreAlike labels m t) where
  overriding_alike : {m k : ℕ} → Overriding w m k → AreAlike labels m k
  overriding_alike (by.at_once {m = m} {k = k} edge) = all m k edge
  overriding_alike (by.through {m = m} {t = t} {k = k} g h other agree) = alike_on labels m t k (overriding_alike g) (overriding_alike h)

  family_alike : {m k : ℕ} → m < length labels → IsFamily w m k → AreAlike labels m k
  family_alike {m = m} lt by.itself = alike_itself labels m lt
  family_alike {m = m} lt (by.above {t = t} {k = k} f h) = alike_on labels m t k (family_alike lt f) (overriding_alike h)
  family_alike {m = m} lt (by.below {t = t} {k = k} f h) = alike_on labels m t k (family_alike lt f) (alike_back labels k t (overriding_alike h))

  pub labels_hold : AreMerging w labels → ((m l : ℕ) → slice_get labels m ≡ Some l → l < length labels) → AreLabels w labels
  labels_hold merging within = record {
    size = merging.size;
    within = within;
    each = λ m k lt. (merging.sound m k, family_alike (omega (arith, lt, merging.size)));
  }

pub family_told : (w : World) (t : Overrides) → HoldsOverrides w t → (m l : ℕ) (list out : List ℕ) → m < length w.methods → slice_get t.labels.items m ≡ Some l → slice_get t.families.items l ≡ Some list
    → out ≡ list → ((k : ℕ) → Contains out k ↔ IsFamily w m k) × IsStrictlyIncreasing out
family_told w t h m l list out lt at is_list are =
    let family = h.families l (h.labels.within m l at) in
    let one : Some family.0 ≡ Some list = sym family.1 ∙ is_list in
    let same : family.0 ≡ list = cc one in
    let group = subst (IsGroup t.labels.items l) (same ∙ sym are) family.2 in (
      λ k. (
        λ has. (h.labels.each m k lt).0 (l, at, (group.each k).0 has),
        λ is.
            let alike = (h.labels.each m k lt).1 is in
            let label : Some alike.0 ≡ Some l = sym alike.1 ∙ at in
            (group.each k).1 (alike.2 ∙ label),
      ),
      group.ascending,
    )

-- Methods that labels take.
use Rattle.std.proofs.Common.{◌≡◌, ℕ, zero, suc, ◌+◌, ◌<◌, List, [], ◌∷◌, ◌++◌, Option, Some, None, ◌⊎◌, inl, inr, ◌↔◌, refl, sym, ap, ◌∙◌, subst, length, nat_eq, arith}
use Rattle.std.specs.Prelude.{slice_get, slice_set, replicate}
use Rattle.std.specs.List.{Contains, AllPairs}
use Rattle.std.specs.List.Sorted.{IsNonDecreasing, IsPermutation, IsStrictlyIncreasing}
use Rattle.std.proofs.lemmas.Bool.Decides.{Decides-eqb}
use Rattle.std.proofs.lemmas.List.Elements.{Contains-append_left, Contains-push, Contains-push_cases, Contains-get_or}
use Rattle.std.proofs.lemmas.List.Quantifiers.{all_pairs_push}
use Rattle.std.proofs.lemmas.Map.Made.{IsDistinct-from_AllPairs}
use Rattle.std.proofs.lemmas.Map.Keys.{IsDistinct-IsPermutation, IsStrictlyIncreasing-from_distinct}
use Rattle.class_world.proofs.Words.{set_here, set_there, same_or_other, length_set}
use Rattle.method_groups.specs.Taking.{AreTaken, AreTakers, KeepsTakers}
use Rattle.method_groups.proofs.Firsts.{Among, among_cases, among_last, among_more, among_none}

none_listed : (k : ℕ) → Contains [] k → ⊥
none_listed k h = let lt = h.1 in omega (arith, lt)

pub none_once : (methods : List ℕ) → methods ≡ [] → AllPairs (λ x y. x ≡ y → ⊥) methods
none_once methods none = subst (AllPairs (λ (x y : ℕ). x ≡ y → ⊥)) (sym none) (λ i j d low lt. absurd (omega (arith, lt)))

-- a label that is no taker has taken nothing
pub taken_none : (takers : List ℕ) (label : ℕ) (methods : List ℕ) → methods ≡ [] → ((k : ℕ) → slice_get takers k ≡ Some label → ⊥) → AreTaken takers label methods
taken_none takers label methods none free = record {
  each = λ k. (λ has. absurd (none_listed k (subst (λ l. Contains l k) none has)), λ at. absurd (free k at));
  once = none_once methods none;
}

pub keeps_none : (takers : List ℕ) (label : ℕ) → KeepsTakers takers takers label
keeps_none takers label = record { size = refl; each = λ m taker at. inl at }

pub keeps_both : (old between new : List ℕ) (label : ℕ) → KeepsTakers old between label → KeepsTakers between new label → KeepsTakers old new label
keeps_both old between new label one two = record {
  size = two.size ∙ one.size;
  each = λ m taker at. elim (two.each m taker at) [ inl was ↦ one.each m taker was | inr is ↦ inr is ];
}

-- one that is taken already
pub taken_again : (takers : List ℕ) (label m : ℕ) (taken : List ℕ) → AreTaken takers label taken → slice_get takers m ≡ Some label → (k : ℕ) → Contains taken k ↔ (Contains taken k ⊎ (k ≡ m))
taken_again takers label m taken h at k = (
  λ has. inl has,
  λ is. elim is [ inl has ↦ has | inr same ↦ subst (Contains taken) (sym same) ((h.each m).1 at) ],
)

-- one more
module _ (takers new : List ℕ) (label m : ℕ) (lt : m < length takers) (made : new ≡ slice_set takers m label) where
  here : slice_get new m ≡ Some label
  here = ap (λ l. slice_get l m) made ∙ set_here takers m label lt

  there : (k : ℕ) → (m ≡ k → ⊥) → slice_get new k ≡ slice_get takers k
  there k other = ap (λ l. slice_get l k) made ∙ set_there takers m k label other

  pub keeps_next : KeepsTakers takers new label
  keeps_next = record {
    size = ap length made ∙ length_set takers m label;
    each = λ k taker at. elim (same_or_other m k) [
      | inl same ↦ let both : Some taker ≡ Some label = sym at ∙ ap (slice_get new) (sym same) ∙ here in inr (cc both)
      | inr other ↦ inl (sym (there k other) ∙ at)
    ];
  }

  module _ (taken more : List ℕ) (h : AreTaken takers label taken) (pushed : more ≡ taken ++ m ∷ []) (apart : slice_get takers m ≡ Some label → ⊥) where
    pub more_has : (k : ℕ) → Contains more k ↔ (Contains taken k ⊎ (k ≡ m))
    more_has k = (
      λ has. elim (Contains-push_cases taken m k (subst (λ l. Contains l k) pushed has)) [ inl old ↦ inl old | inr same ↦ inr (sym same) ],
      λ is. subst (λ l. Contains l k) (sym pushed) (elim is [
        | inl old ↦ Contains-append_left taken (m ∷ []) k old
        | inr same ↦ subst (Contains (taken ++ m ∷ [])) (sym same) (Contains-push taken m)
      ]),
    )

    pub taken_next : AreTaken new label more
    taken_next = record {
      each = λ k. (
        λ has. elim (same_or_other m k) [
          | inl same ↦ ap (slice_get new) (sym same) ∙ here
          | inr other ↦ elim ((more_has k).0 has) [ inl old ↦ there k other ∙ (h.each k).0 old | inr same ↦ absurd (other (sym same)) ]
        ],
        λ at. elim (same_or_other m k) [
          | inl same ↦ (more_has k).1 (inr (sym same))
          | inr other ↦ (more_has k).1 (inl ((h.each k).1 (sym (there k other) ∙ at)))
        ],
      );
      once = subst (AllPairs (λ (x y : ℕ). x ≡ y → ⊥)) (sym pushed)
          (all_pairs_push (λ (x y : ℕ). x ≡ y → ⊥) taken m h.once (λ k d low same. apart ((h.each m).0 (subst (Contains taken) same (Contains-get_or taken k d low)))));
    }

-- ---- all of a list

-- what was taken before, and the first i methods
abbrev pub TakesFirst : List ℕ → List ℕ → List ℕ → ℕ → Type 0
TakesFirst before after methods i = (k : ℕ) → Contains after k ↔ (Contains before k ⊎ Among methods i k)

pub takes_none : (before methods : List ℕ) → TakesFirst before before methods 0
takes_none before methods k = (λ has. inl has, λ is. elim is [ inl has ↦ has | inr among ↦ absurd (among_none methods k among) ])

pub takes_next : (before after more methods : List ℕ) (i m : ℕ) → slice_get methods i ≡ Some m → ((k : ℕ) → Contains more k ↔ (Contains after k ⊎ (k ≡ m))) → TakesFirst before after methods i → TakesFirst before more methods (i + 1)
takes_next before after more methods i m at adds h k = (
  λ has. elim ((adds k).0 has) [
    | inl was ↦ elim ((h k).0 was) [ inl old ↦ inl old | inr among ↦ inr (among_more methods i k among) ]
    | inr same ↦ inr (subst (Among methods (i + 1)) (sym same) (among_last methods i m at))
  ],
  λ is. (adds k).1 (elim is [
    | inl old ↦ inl ((h k).1 (inl old))
    | inr among ↦ elim (among_cases methods i k m at among) [ inl early ↦ inl ((h k).1 (inr early)) | inr last ↦ inr last ]
  ]),
)

-- ---- sorted

eqb_flips : (x y : ℕ) → nat_eq x y ≡ nat_eq y x
eqb_flips x y = grind arith

pub sorted_ascends : (taken sorted : List ℕ) → AllPairs (λ (x y : ℕ). x ≡ y → ⊥) taken → IsPermutation taken sorted → IsNonDecreasing sorted → IsStrictlyIncreasing sorted
sorted_ascends taken sorted once moved up = IsStrictlyIncreasing-from_distinct sorted up (IsDistinct-IsPermutation nat_eq eqb_flips taken sorted moved (IsDistinct-from_AllPairs Decides-eqb taken once))

-- ---- takers

pub no_takers : (places : List (Option ℕ)) (takers : List ℕ) (count : ℕ) → takers ≡ replicate count 0 → AreTakers places takers
no_takers places takers count made m n at above =
    let low = zeros count m n (ap (λ l. slice_get l m) (sym made) ∙ at) in
    absurd (omega (arith, low, above))
  where
    zeros : (count m n : ℕ) → slice_get (replicate count 0) m ≡ Some n → n ≡ 0
    zeros zero m n e = cc e
    zeros (suc c) zero n e = cc e
    zeros (suc c) (suc m) n e = zeros c m n e

-- a label that has no place yet is no taker
pub not_taker : (places : List (Option ℕ)) (takers : List ℕ) (label : ℕ) → AreTakers places takers → slice_get places label ≡ Some None → 0 < label → (k : ℕ) → slice_get takers k ≡ Some label → ⊥
not_taker places takers label h none above k at =
    let its = h k label at above in
    let never : Some (Some its.0) ≡ Some None = sym its.1 ∙ none in
    absurd (cc never)

-- a place for the label
pub takers_next : (places : List (Option ℕ)) (old new : List ℕ) (label p : ℕ) → label < length places → AreTakers places old → KeepsTakers old new label → AreTakers (slice_set places label (Some p)) new
takers_next places old new label p lt h kept m n at above = elim (same_or_other label n) [
  | inl same ↦ (p, ap (slice_get (slice_set places label (Some p))) (sym same) ∙ set_here places label (Some p) lt)
  | inr other ↦ elim (kept.each m n at) [
    | inl was ↦ let its = h m n was above in (its.0, set_there places label n (Some p) other ∙ its.1)
    | inr is ↦ absurd (other (sym is))
  ]
]

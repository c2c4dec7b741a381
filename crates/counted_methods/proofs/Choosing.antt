-- The best of each sign, and the methods that are it.
use Rattle.std.proofs.Common.{◌≡◌, ℕ, ◌+◌, ◌<◌, ◌≤◌, List, [], ◌∷◌, ◌++◌, Option, Some, None, ◌⊎◌, inl, inr, ◌↔◌, refl, sym, ap, ◌∙◌, subst, length, arith}
use Rattle.std.specs.Prelude.{slice_get}
use Rattle.std.specs.List.{Contains}
use Rattle.std.specs.List.Sorted.{IsStrictlyIncreasing}
use Rattle.std.proofs.lemmas.Bool.{cases_eq}
use Rattle.std.proofs.lemmas.Option.{slice_get_within}
use Rattle.class_world.specs.declared.world.World.{World}
use Rattle.class_world.specs.Signatures.{HaveOneSignatureIn}
use Rattle.class_world.specs.Counted.{IsPreferred}
use Rattle.member_methods.proofs.Firsts.{at_contains, contains_at, low_or_last, Keeps, push_kept, skip_kept, all_kept}
use Rattle.counted_methods.specs.Chosen.{AreChosen, AreKeptBy, AreSigns, HasSign, IsBest, IsBetter}
use Rattle.counted_methods.proofs.Firsts.{later_greater, one_place, rises_push}
use Rattle.counted_methods.proofs.Preferring.{not_itself, not_both, other_preferred, preferred_through}

pub best_skip : (w : World) (above ms : List ℕ) (signs : List (Option ℕ)) (i : ℕ) (best : ℕ → Option ℕ) → slice_get signs i ≡ Some None → IsBest w above ms signs i best → IsBest w above ms signs (i + 1) best
best_skip w above ms signs i best none before = record {
  found = λ j m n lt at sign. elim (low_or_last j i lt) [
    | inl low ↦ before.found j m n low at sign
    | inr last ↦ let never : Some None ≡ Some (Some n) = sym none ∙ ap (slice_get signs) (sym last) ∙ sign in absurd (cc never)
  ];
  from = λ n b e. let h = before.from n b e in (h.0, (let lt = h.1 in omega (arith, lt)), h.2, h.3);
}

module _ (w : World) (above ms : List ℕ) (signs : List (Option ℕ)) (i m n : ℕ) (best new : ℕ → Option ℕ) (at : slice_get ms i ≡ Some m) (sign : HasSign signs i n) (better : IsBetter w above n m best new)
    (before : IsBest w above ms signs i best) where
  abbrev IsFound : ℕ → ℕ → Type 0
  IsFound k q = (b : ℕ) × (new q ≡ Some b) × ((b ≡ k) ⊎ IsPreferred w above b k)

  found_before : (j k q : ℕ) → j < i → slice_get ms j ≡ Some k → HasSign signs j q → IsFound k q
  found_before j k q low at_k sign_k =
      let old = before.found j k q low at_k sign_k in
      elim (cases_eq q n) [
        | inl same ↦
            let old_n : best n ≡ Some old.0 = ap best (sym same) ∙ old.1 in
            elim better.here [
              | inl taken ↦
                  let over = taken.1 old.0 old_n in
                  (m, ap new same ∙ taken.0, inr (elim old.2 [ inl is ↦ subst (IsPreferred w above m) is over | inr less ↦ preferred_through w above m old.0 k over less ]))
              | inr stays ↦
                  let is : stays.0 ≡ old.0 = let both : Some stays.0 ≡ Some old.0 = sym stays.1 ∙ old_n in cc both in
                  (old.0, ap new same ∙ stays.2 ∙ ap Some is, old.2)
            ]
        | inr other ↦ (old.0, better.others q other ∙ old.1, old.2)
      ]

  found_last : IsFound m n
  found_last = elim better.here [
    | inl taken ↦ (m, taken.0, inl refl)
    | inr stays ↦ (stays.0, stays.2, other_preferred w above m stays.0 stays.3)
  ]

  from_one : (q b : ℕ) → new q ≡ Some b → (j : ℕ) × (j < i + 1) × (slice_get ms j ≡ Some b) × HasSign signs j q
  from_one q b e = elim (cases_eq q n) [
    | inl same ↦ elim better.here [
      | inl taken ↦
          let is : m ≡ b = let both : Some m ≡ Some b = sym taken.0 ∙ ap new (sym same) ∙ e in cc both in
          (i, (omega arith), at ∙ ap Some is, sign ∙ ap (λ x. Some (Some x)) (sym same))
      | inr stays ↦
          let is : stays.0 ≡ b = let both : Some stays.0 ≡ Some b = sym stays.2 ∙ ap new (sym same) ∙ e in cc both in
          let h = before.from q b (ap best same ∙ stays.1 ∙ ap Some is) in
          (h.0, (let lt = h.1 in omega (arith, lt)), h.2, h.3)
    ]
    | inr other ↦ let h = before.from q b (sym (better.others q other) ∙ e) in (h.0, (let lt = h.1 in omega (arith, lt)), h.2, h.3)
  ]

  pub best_next : IsBest w above ms signs (i + 1) new
  best_next = record {
    found = λ j k q lt at_k sign_k. elim (low_or_last j i lt) [
      | inl low ↦ found_before j k q low at_k sign_k
      | inr last ↦
          let is : m ≡ k = let both : Some m ≡ Some k = sym at ∙ ap (slice_get ms) (sym last) ∙ at_k in cc both in
          let one : n ≡ q = let both : Some (Some n) ≡ Some (Some q) = sym sign ∙ ap (slice_get signs) (sym last) ∙ sign_k in cc both in
          subst (λ q. IsFound k q) one (subst (λ k. IsFound k n) is found_last)
    ];
    from = from_one;
  }

-- ---- the methods that are the best of their signs

abbrev pub IsBestOf : (ℕ → Option ℕ) → List ℕ → List (Option ℕ) → ℕ → Type 0
IsBestOf best ms signs m = (j n : ℕ) → slice_get ms j ≡ Some m → HasSign signs j n → best n ≡ Some m

abbrev pub AreKeptFirst : (ℕ → Option ℕ) → List ℕ → List (Option ℕ) → List ℕ → ℕ → Type 0
AreKeptFirst best ms signs xs i = Keeps (IsBestOf best ms signs) ms xs i × IsStrictlyIncreasing xs

module _ (best : ℕ → Option ℕ) (ms : List ℕ) (signs : List (Option ℕ)) (rises : IsStrictlyIncreasing ms) (i m : ℕ) (o : Option ℕ) (at : slice_get ms i ≡ Some m) (sign : slice_get signs i ≡ Some o) where
  pub best_told : ((n : ℕ) → o ≡ Some n → best n ≡ Some m) ↔ IsBestOf best ms signs m
  best_told = (
    λ h j n at_j sign_j.
        let place : j ≡ i = one_place ms j i m rises at_j at in
        let both : Some o ≡ Some (Some n) = sym sign ∙ ap (slice_get signs) (sym place) ∙ sign_j in
        h n (cc both),
    λ h n e. h i n at (sign ∙ ap Some e),
  )

  pub kept_more : (xs new : List ℕ) → new ≡ xs ++ m ∷ [] → ((n : ℕ) → o ≡ Some n → best n ≡ Some m) → AreKeptFirst best ms signs xs i → AreKeptFirst best ms signs new (i + 1)
  kept_more xs new made is h = (
    push_kept (IsBestOf best ms signs) ms xs new i m h.0 at (best_told.0 is) made,
    rises_push xs new m made h.1 (λ x there. let among = ((h.0 x).0 there).0 in later_greater ms among.0 i x m rises among.2 at among.1),
  )

  pub kept_same : (xs : List ℕ) → (((n : ℕ) → o ≡ Some n → best n ≡ Some m) → ⊥) → AreKeptFirst best ms signs xs i → AreKeptFirst best ms signs xs (i + 1)
  kept_same xs not h = (skip_kept (IsBestOf best ms signs) ms xs i m h.0 at (λ is. not (best_told.1 is)), h.1)

pub kept_all : (best : ℕ → Option ℕ) (ms : List ℕ) (signs : List (Option ℕ)) (xs : List ℕ) (i : ℕ) → length ms ≤ i → AreKeptFirst best ms signs xs i → AreKeptBy best ms signs xs
kept_all best ms signs xs i full h = (all_kept (IsBestOf best ms signs) ms xs i full h.0, h.1)

-- ---- the best are those of which no other is preferred

pub chosen_told : (w : World) (c : ℕ) (above ms : List ℕ) (signs : List (Option ℕ)) (best : ℕ → Option ℕ) (xs : List ℕ) → AreSigns w c ms signs → IsBest w above ms signs (length ms) best
    → AreKeptBy best ms signs xs → AreChosen w c above ms xs
chosen_told w c above ms signs best xs are is kept = (
  λ m. (
    λ h. let own = (kept.0 m).0 h in (own.0, λ k there one less. first m own.0 own.1 k there one less),
    λ h. (kept.0 m).1 (h.0, λ j n at sign. second m h.1 j n at sign),
  ),
  kept.1,
)
  where
    first : (m : ℕ) → Contains ms m → IsBestOf best ms signs m → (k : ℕ) → Contains ms k → HaveOneSignatureIn w c k m → IsPreferred w above k m → ⊥
    first m here own k there one less =
        let at = contains_at ms m here in
        let at_k = contains_at ms k there in
        let sign = (are.told at_k.0 at.0 k m at_k.1 at.1).0 one in
        let mine = own at.0 sign.0 at.1 sign.2 in
        let b = is.found at_k.0 k sign.0 (slice_get_within ms at_k.0 k at_k.1) at_k.1 sign.1 in
        let same : b.0 ≡ m = let both : Some b.0 ≡ Some m = sym b.1 ∙ mine in cc both in
        elim b.2 [
          | inl e ↦ not_itself w above m (subst (λ k. IsPreferred w above k m) (sym e ∙ same) less)
          | inr over ↦ not_both w above m k (subst (λ b. IsPreferred w above b k) same over) less
        ]

    second : (m : ℕ) → ((k : ℕ) → Contains ms k → HaveOneSignatureIn w c k m → IsPreferred w above k m → ⊥) → (j n : ℕ) → slice_get ms j ≡ Some m → HasSign signs j n → best n ≡ Some m
    second m none j n at sign =
        let b = is.found j m n (slice_get_within ms j m at) at sign in
        elim b.2 [
          | inl e ↦ b.1 ∙ ap Some e
          | inr over ↦
              let there = is.from n b.0 b.1 in
              absurd (none b.0 (at_contains ms there.0 b.0 there.2) ((are.told there.0 j b.0 m there.2 at).1 (n, there.3, sign)) over)
        ]

-- The methods up to one, and that one: the keys held, and the first that repeats one before.
use Rattle.std.proofs.Common.{◌≡◌, ℕ, ◌+◌, ◌<◌, ◌≤◌, inl, inr, Bool, true, false, not, cond, List, Option, Some, None, ◌↔◌, refl, sym, ap, ◌∙◌, subst, length, arith}
use Rattle.std.specs.Prelude.{slice_get, Decides}
use Rattle.std.proofs.lemmas.Bool.{cases_lt}
use Rattle.std.proofs.lemmas.Option.{slice_get_within}
use Rattle.class_world.specs.declared.world.MethodInfo.{MethodInfo}
use Rattle.rule_order.specs.declared.Breach.{Breach}
use Rattle.rule_order.specs.First.{Breaches, Either, IsFirst, IsEarlier}
use Rattle.rule_order.proofs.Firsts.{first_alike, first_of_both}
use Rattle.method_rules.specs.declared.signatures.Signature.{Signature}
use Rattle.method_rules.specs.Repeats.{AreAlike, BreaksAt, RepeatsMethod}
use Rattle.method_rules.specs.Signatures.{IsSignatureOf}
use Rattle.method_rules.proofs.Keys.{same_key, key_told, alike_told}

-- a method before the i-th has the key
abbrev IsHeld : List MethodInfo → ℕ → Signature → Type 0
IsHeld ms i q = (j : ℕ) × (m : MethodInfo) × (j < i) × (slice_get ms j ≡ Some m) × IsSignatureOf m q

-- the keys held are those of the methods before the i-th
abbrev pub HoldsKeys : List MethodInfo → ℕ → (Signature → Bool) → Type 0
HoldsKeys ms i held = (q : Signature) → Decides (held q) (IsHeld ms i q)

-- the later one of the two stands before the i-th
abbrev pub RepeatsBefore : List MethodInfo → ℕ → Breaches
RepeatsBefore ms i b =
    (j : ℕ) × (k : ℕ) × (m : MethodInfo) × (n : MethodInfo) × (k < i) × (j < k) × (slice_get ms j ≡ Some m) × (slice_get ms k ≡ Some n) × AreAlike m n × BreaksAt n b

pub none_held : (ms : List MethodInfo) (held : Signature → Bool) → ((q : Signature) → held q ≡ false) → HoldsKeys ms 0 held
none_held ms held none q = (λ e. absurd (let f = none q in cc (e, f)), λ h. absurd (omega (arith, h.2)))

pub none_repeated : (ms : List MethodInfo) → IsFirst (RepeatsBefore ms 0) None
none_repeated ms b h = omega (arith, h.4)

pub all_repeated : (ms : List MethodInfo) (i : ℕ) (r : Option Breach) → length ms ≤ i → IsFirst (RepeatsBefore ms i) r → IsFirst (RepeatsMethod ms) r
all_repeated ms i r le = first_alike (RepeatsBefore ms i) (RepeatsMethod ms) (λ b. (
  λ h. (h.0, h.1, h.2, h.3, h.5, h.6, h.7, h.8, h.9),
  λ h. (h.0, h.1, h.2, h.3, (let lt = slice_get_within ms h.1 h.3 h.6 in omega (arith, lt, le)), h.4, h.5, h.6, h.7, h.8),
)) r

module _ (ms : List MethodInfo) (i : ℕ) (n : MethodInfo) (key : Signature) (held : Signature → Bool) (at : slice_get ms i ≡ Some n) (is : IsSignatureOf n key) (holds : HoldsKeys ms i held) where
  -- with the key of the i-th one the keys held are those before the next
  pub held_more : (new : Signature → Bool) → ((q : Signature) → new q ≡ cond (same_key key q) true (held q)) → HoldsKeys ms (i + 1) new
  held_more new puts q = by (same_key key q) refl
    where
      later : IsHeld ms i q → IsHeld ms (i + 1) q
      later h = (h.0, h.1, omega (arith, h.2), h.3, h.4)

      by : (b : Bool) → same_key key q ≡ b → Decides (new q) (IsHeld ms (i + 1) q)
      by true e =
          let here : new q ≡ true = puts q ∙ ap (λ b. cond b true (held q)) e in
          (λ h. (i, n, omega arith, at, (key_told n key q is).0 e), λ h. here)
      by false e =
          let there : new q ≡ held q = puts q ∙ ap (λ b. cond b true (held q)) e in (
            λ h. later ((holds q).0 (sym there ∙ h)),
            λ h. elim (cases_lt h.0 i) [
              | inl lt ↦ there ∙ (holds q).1 (h.0, h.1, lt, h.3, h.4)
              | inr ge ↦
                  let last : h.0 ≡ i = omega (arith, h.2) in
                  let same : h.1 ≡ n = cc (h.3, at, last) in
                  let found = (key_told n key q is).1 (subst (λ m. IsSignatureOf m q) same h.4) in
                  absurd (cc (e, found))
            ],
          )

  -- what the i-th one adds
  adds : (b : Breach) → Either (RepeatsBefore ms i) (λ b. (held key ≡ true) × BreaksAt n b) b ↔ RepeatsBefore ms (i + 1) b
  adds b = (
    λ h. elim h [
      | inl u ↦ (u.0, u.1, u.2, u.3, omega (arith, u.4), u.5, u.6, u.7, u.8, u.9)
      | inr u ↦ let old = (holds key).0 u.0 in (old.0, i, old.1, n, omega arith, old.2, old.3, at, (alike_told old.1 n key is).0 old.4, u.1)
    ],
    λ h. elim (cases_lt h.1 i) [
      | inl lt ↦ inl (h.0, h.1, h.2, h.3, lt, h.5, h.6, h.7, h.8, h.9)
      | inr ge ↦
          let last : h.1 ≡ i = omega (arith, h.4) in
          let same : h.3 ≡ n = cc (h.7, at, last) in
          let alike = subst (AreAlike h.2) same h.8 in
          inr ((holds key).1 (h.0, h.2, omega (arith, h.5, last), h.6, (alike_told h.2 n key is).1 alike), subst (λ n. BreaksAt n b) same h.9)
    ],
  )

  -- the i-th one is new
  pub repeats_none : (first : Option Breach) (is_new : Bool) → is_new ≡ not (held key) → is_new ≡ true → IsFirst (RepeatsBefore ms i) first → IsFirst (RepeatsBefore ms (i + 1)) first
  repeats_none first is_new added new =
      first_alike (RepeatsBefore ms i) (RepeatsBefore ms (i + 1)) (λ b. (
        λ h. (adds b).0 (inl h),
        λ h. elim ((adds b).1 h) [ inl u ↦ u | inr u ↦ absurd (let e = ap not u.0 in cc (added, new, e)) ],
      )) first

  -- there is one like it before
  pub repeats_more : (first broken next : Option Breach) (is_new : Bool) → is_new ≡ not (held key) → is_new ≡ false → IsFirst (BreaksAt n) broken → IsEarlier first broken next
      → IsFirst (RepeatsBefore ms i) first → IsFirst (RepeatsBefore ms (i + 1)) next
  repeats_more first broken next is_new added old one earlier so_far =
      first_alike (Either (RepeatsBefore ms i) (BreaksAt n)) (RepeatsBefore ms (i + 1)) (λ b. (
        λ h. (adds b).0 (elim h [ inl u ↦ inl u | inr u ↦ inr (twice (held key) (sym added ∙ old), u) ]),
        λ h. elim ((adds b).1 h) [ inl u ↦ inl u | inr u ↦ inr u.1 ],
      )) next (first_of_both (RepeatsBefore ms i) (BreaksAt n) first broken next earlier so_far one)
    where
      twice : (b : Bool) → not b ≡ false → b ≡ true
      twice true e = refl
      twice false e = absurd (cc e)

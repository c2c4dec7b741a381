-- Bits in a list of words.
use Rattle.std.proofs.Common.{◌≡◌, ℕ, ◌+◌, ◌*◌, ◌/◌, ◌%◌, ◌<◌, zero, suc, true, List, [], ◌∷◌, Some, None, ◌⊎◌, ◌↔◌, inl, inr, refl, sym, ap, ◌∙◌, ◌++◌, subst, length, nat_eq, bit_or, bit_and, w64, arith}
use Rattle.std.proofs.lemmas.Bool.{eq-eqb}
use Rattle.std.proofs.lemmas.Grind.{common_steps}
use Rattle.std.specs.Prelude.{slice_get, slice_set, slice_index_or as get_or, ◌^◌, IsTrue, max, min, take, drop}
use Rattle.std.specs.Int.{bit_at}
use Rattle.std.proofs.lemmas.Nat.Bits.{bit_at_and, bit_at_or, bit_at-lt, bit_at_set_same, bit_at_set_other, shr_and_one}
use Rattle.std.proofs.lemmas.Option.{slice_get_read, slice_get_within}
use Rattle.class_world.specs.Sound.{IsSet}
use Rattle.class_world.specs.Merged.{Sets}

pub set_here : {A : Type 0} (xs : List A) (i : ℕ) (v : A) → i < length xs → slice_get (slice_set xs i v) i ≡ Some v
set_here [] i v lt = absurd (omega (arith, lt))
set_here (x ∷ xs) zero v lt = refl
set_here (x ∷ xs) (suc i) v lt = set_here xs i v (omega (arith, lt))

pub set_there : {A : Type 0} (xs : List A) (i j : ℕ) (v : A) → (i ≡ j → ⊥) → slice_get (slice_set xs i v) j ≡ slice_get xs j
set_there [] i j v other = refl
set_there (x ∷ xs) zero zero v other = absurd (other refl)
set_there (x ∷ xs) zero (suc j) v other = refl
set_there (x ∷ xs) (suc i) zero v other = refl
set_there (x ∷ xs) (suc i) (suc j) v other = set_there xs i j v (λ e. other (ap suc e))

pub same_or_other : (a b : ℕ) → (a ≡ b) ⊎ (a ≡ b → ⊥)
same_or_other zero zero = inl refl
same_or_other zero (suc b) = inr (λ e. omega (arith, e))
same_or_other (suc a) zero = inr (λ e. omega (arith, e))
same_or_other (suc a) (suc b) = elim (same_or_other a b) [ inl e ↦ inl (ap suc e) | inr n ↦ inr (λ e. n (omega (arith, e))) ]

-- a word's bit
reads : (words : List ℕ) (h a : ℕ) → slice_get words (h / 64) ≡ Some a → IsSet words h → bit_at a (h % 64) ≡ 1
reads words h a at is = let same : is.0 ≡ a = cc (is.1, at) in ap (λ n. bit_at n (h % 64)) (sym same) ∙ is.2

-- the same word at h, the same bit there
moved : (old new : List ℕ) (h : ℕ) → slice_get new (h / 64) ≡ slice_get old (h / 64) → IsSet old h → IsSet new h
moved old new h e is = (is.0, e ∙ is.1, is.2)

whole : (h g : ℕ) → h / 64 ≡ g / 64 → h % 64 ≡ g % 64 → h ≡ g
whole h g e f = omega (arith, e, f)

low_bits : (h : ℕ) → h % 64 < 64
low_bits h = omega arith

pub one_set : (words new : List ℕ) (g : ℕ) → g / 64 < length words → new ≡ slice_set words (g / 64) (bit_or (get_or words (g / 64) 0) (1 * 2 ^ (g % 64) % 18446744073709551616)) → Sets words new g
one_set words new g lt made h = elim (same_or_other (g / 64) (h / 64)) [
  | inr other ↦
      let there : slice_get new (h / 64) ≡ slice_get words (h / 64) = ap (λ ws. slice_get ws (h / 64)) made ∙ set_there words (g / 64) (h / 64) _ other in (
        λ is. inl (moved new words h (sym there) is),
        λ is. elim is [ inl old ↦ moved words new h there old | inr e ↦ absurd (other (ap (λ n. n / 64) (sym e))) ],
      )
  | inl place ↦
      let old = get_or words (g / 64) 0 in
      let before : slice_get words (h / 64) ≡ Some old = ap (slice_get words) (sym place) ∙ slice_get_read words (length words) (g / 64) old refl lt (same_default words (g / 64) lt) in
      let after : slice_get new (h / 64) ≡ Some (bit_or old (1 * 2 ^ (g % 64) % 18446744073709551616)) =
      ap (λ ws. slice_get ws (h / 64)) made ∙ ap (slice_get (slice_set words (g / 64) _)) (sym place) ∙ set_here words (g / 64) _ lt in
      elim (same_or_other (h % 64) (g % 64)) [
        | inl bit ↦ (
          λ is. inr (whole h g (sym place) bit),
          λ is. (_, after, ap (bit_at (bit_or old (1 * 2 ^ (g % 64) % 18446744073709551616))) bit ∙ bit_at_set_same w64 old (g % 64) (low_bits g)),
        )
        | inr other ↦
            let kept = bit_at_set_other w64 old (g % 64) (low_bits g) (h % 64) other in (
              λ is. inl (old, before, sym kept ∙ reads new h _ after is),
              λ is. elim is [ inl was ↦ (_, after, kept ∙ reads words h old before was) | inr e ↦ absurd (other (ap (λ n. n % 64) e)) ],
            )
      ]
]
  where
    same_default : (xs : List ℕ) (i : ℕ) → i < length xs → get_or xs i 0 ≡ get_or xs i (get_or xs i 0)
    same_default [] i lt = absurd (omega (arith, lt))
    same_default (x ∷ xs) zero lt = refl
    same_default (x ∷ xs) (suc i) lt = same_default xs i (omega (arith, lt))

either_bit : (a b i : ℕ) → bit_at (bit_or a b) i ≡ 1 → (bit_at a i ≡ 1) ⊎ (bit_at b i ≡ 1)
either_bit a b i e =
    let m : max (bit_at a i) (bit_at b i) ≡ 1 = sym (bit_at_or a b i) ∙ e in
    grind (arith, m, bit_at-lt a i, bit_at-lt b i)

left_bit : (a b i : ℕ) → bit_at a i ≡ 1 → bit_at (bit_or a b) i ≡ 1
left_bit a b i e = bit_at_or a b i ∙ omega (arith, e, bit_at-lt b i)

right_bit : (a b i : ℕ) → bit_at b i ≡ 1 → bit_at (bit_or a b) i ≡ 1
right_bit a b i e = bit_at_or a b i ∙ omega (arith, e, bit_at-lt a i)

-- the bits that were, and those of the words before the i-th for which P holds
abbrev pub SetsBefore : List ℕ → List ℕ → (ℕ → Type 0) → ℕ → Type 0
SetsBefore old new P i = (h : ℕ) → IsSet new h ↔ (IsSet old h ⊎ (P h × (h / 64 < i)))

pub more_set : (old words new : List ℕ) (P : ℕ → Type 0) (i a b : ℕ) → SetsBefore old words P i → slice_get words i ≡ Some a → ((h : ℕ) → i ≡ h / 64 → P h ↔ (bit_at b (h % 64) ≡ 1)) → new ≡ slice_set words i (bit_or a b)
    → SetsBefore old new P (i + 1)
more_set old words new P i a b before at told made h = elim (same_or_other i (h / 64)) [
  | inr other ↦
      let there : slice_get new (h / 64) ≡ slice_get words (h / 64) = ap (λ ws. slice_get ws (h / 64)) made ∙ set_there words i (h / 64) _ other in (
        λ is. elim ((before h).0 (moved new words h (sym there) is)) [ inl was ↦ inl was | inr m ↦ inr (m.0, omega (arith, m.1)) ],
        λ is. moved words new h there ((before h).1 (elim is [ inl was ↦ inl was | inr m ↦ inr (m.0, lower i (h / 64) m.1 other) ])),
      )
  | inl place ↦
      let first : slice_get words (h / 64) ≡ Some a = ap (slice_get words) (sym place) ∙ at in
      let after : slice_get new (h / 64) ≡ Some (bit_or a b) =
      ap (λ ws. slice_get ws (h / 64)) made ∙ ap (slice_get (slice_set words i _)) (sym place) ∙ set_here words i _ (slice_get_within words i a at) in (
        λ is. elim (either_bit a b (h % 64) (reads new h _ after is)) [
          | inl one ↦ elim ((before h).0 (a, first, one)) [ inl was ↦ inl was | inr m ↦ inr (m.0, omega (arith, m.1)) ]
          | inr one ↦ inr ((told h place).1 one, omega (arith, place))
        ],
        λ is. elim is [
          | inl was ↦ (_, after, left_bit a b (h % 64) (reads words h a first ((before h).1 (inl was))))
          | inr m ↦ (_, after, right_bit a b (h % 64) ((told h place).0 m.0))
        ],
      )
]
  where
    lower : (i k : ℕ) → k < i + 1 → (i ≡ k → ⊥) → k < i
    lower zero zero lt other = absurd (other refl)
    lower zero (suc k) lt other = absurd (omega (arith, lt))
    lower (suc i) zero lt other = omega arith
    lower (suc i) (suc k) lt other = let low = lower i k (omega (arith, lt)) (λ e. other (ap suc e)) in omega (arith, low)

-- what the word at a place has
pub word_told : (more : List ℕ) (i b : ℕ) → slice_get more i ≡ Some b → (h : ℕ) → i ≡ h / 64 → IsSet more h ↔ (bit_at b (h % 64) ≡ 1)
word_told more i b at h place =
    let there : slice_get more (h / 64) ≡ Some b = ap (slice_get more) (sym place) ∙ at in
    (reads more h b there, λ one. (b, there, one))

-- what the words at a place both have
pub both_told : (more mask : List ℕ) (i b m : ℕ) → slice_get more i ≡ Some b → slice_get mask i ≡ Some m → (h : ℕ) → i ≡ h / 64 → (IsSet more h × IsSet mask h) ↔ (bit_at (bit_and b m) (h % 64) ≡ 1)
both_told more mask i b m at at' h place =
    let first = word_told more i b at h place in
    let second = word_told mask i m at' h place in (
      λ is. let x = first.0 is.0 in let y = second.0 is.1 in bit_at_and b m (h % 64) ∙ omega (arith, x, y),
      λ one.
          let least : min (bit_at b (h % 64)) (bit_at m (h % 64)) ≡ 1 = sym (bit_at_and b m (h % 64)) ∙ one in
          (first.1 (omega (arith, least, bit_at-lt b (h % 64), bit_at-lt m (h % 64))), second.1 (omega (arith, least, bit_at-lt b (h % 64), bit_at-lt m (h % 64)))),
    )

-- where P holds for no bit of the i-th word
pub none_more : (old words : List ℕ) (P : ℕ → Type 0) (i : ℕ) → SetsBefore old words P i → ((h : ℕ) → i ≡ h / 64 → P h → ⊥) → SetsBefore old words P (i + 1)
none_more old words P i before none h = (
  λ is. elim ((before h).0 is) [ inl was ↦ inl was | inr m ↦ inr (m.0, omega (arith, m.1)) ],
  λ is. (before h).1 (elim is [ inl was ↦ inl was | inr m ↦ elim (lower_or_last (h / 64) i m.1) [ inl low ↦ inr (m.0, low) | inr last ↦ absurd (none h (sym last) m.0) ] ]),
)
  where
    lower_or_last : (k i : ℕ) → k < i + 1 → (k < i) ⊎ (k ≡ i)
    lower_or_last k i h = grind (arith, h)

pub none_before : (old new : List ℕ) (P : ℕ → Type 0) → new ≡ old → SetsBefore old new P 0
none_before old new P made h = (λ is. inl (subst (λ ws. IsSet ws h) made is), λ is. elim is [ inl was ↦ subst (λ ws. IsSet ws h) (sym made) was | inr m ↦ absurd (omega (arith, m.1)) ])

pub all_set : (old words : List ℕ) (P : ℕ → Type 0) (i : ℕ) → SetsBefore old words P i → ((h : ℕ) → P h → h / 64 < i) → (h : ℕ) → IsSet words h ↔ (IsSet old h ⊎ P h)
all_set old words P i before all h = (
  λ is. elim ((before h).0 is) [ inl was ↦ inl was | inr m ↦ inr m.0 ],
  λ is. (before h).1 (elim is [ inl was ↦ inl was | inr p ↦ inr (p, all h p) ]),
)

pub set_within : (words : List ℕ) (h : ℕ) → IsSet words h → h / 64 < length words
set_within words h is = slice_get_within words (h / 64) is.0 is.1

-- a bit that is read

pub set_told : (words : List ℕ) (g word : ℕ) → slice_get words (g / 64) ≡ Some word → IsTrue (nat_eq (bit_and (word / 2 ^ (g % 64)) 1) 1) ↔ IsSet words g
set_told words g word at = (
  λ h. (word, at, sym (shr_and_one word (g % 64)) ∙ from_test _ _ h),
  λ h.
      let is : h.0 ≡ word = cc (h.1, at) in
      eq-eqb _ _ (shr_and_one word (g % 64) ∙ ap (λ n. bit_at n (g % 64)) (sym is) ∙ h.2),
)
  where
    from_test : (a b : ℕ) → nat_eq a b ≡ true → a ≡ b
    from_test a b h = grind (arith, h)

pub none_set : (words : List ℕ) (g : ℕ) → slice_get words (g / 64) ≡ None → IsSet words g → ⊥
none_set words g none h = absurd (cc (none, h.1))

-- what a slice of all of a vector writes back
pub words_back : (new items : List ℕ) (n : ℕ) → length new ≡ length items → n ≡ length items → take n (new ++ drop (length new) items) ≡ new
words_back new items n size all = grind (arith, common_steps)

pub length_set : {A : Type 0} (xs : List A) (i : ℕ) (v : A) → length (slice_set xs i v) ≡ length xs
length_set [] i v = refl
length_set (x ∷ xs) zero v = refl
length_set (x ∷ xs) (suc i) v = ap suc (length_set xs i v)

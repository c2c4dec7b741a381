-- A bit in a list of words, as it is read.
use Rattle.std.proofs.Common.{◌≡◌, ℕ, ◌/◌, ◌%◌, List, Some, None, ◌↔◌, sym, ap, ◌∙◌, nat_eq, bit_and, arith, true}
use Rattle.std.specs.Prelude.{slice_get, IsTrue, ◌^◌}
use Rattle.std.specs.Int.{bit_at}
use Rattle.std.proofs.lemmas.Bool.{eq-eqb}
use Rattle.std.proofs.lemmas.Nat.Bits.{shr_and_one}
use Rattle.class_world.specs.Sound.{IsSet}

pub set_told : (words : List ℕ) (g word : ℕ) → slice_get words (g / 64) ≡ Some word → IsTrue (nat_eq (bit_and (word / 2 ^ (g % 64)) 1) 1) ↔ IsSet words g
set_told words g word at = (
  λ h. (word, at, sym (shr_and_one word (g % 64)) ∙ from_test _ _ h),
  λ h.
      let is : h.0 ≡ word = cc (h.1, at) in
      eq-eqb _ _ (shr_and_one word (g % 64) ∙ ap (λ n. bit_at n (g % 64)) (sym is) ∙ h.2),
)
  where
    from_test : (a b : ℕ) → nat_eq a b ≡ true → a ≡ b
    from_test a b h = grind (arith, h)

pub none_set : (words : List ℕ) (g : ℕ) → slice_get words (g / 64) ≡ None → IsSet words g → ⊥
none_set words g none h = absurd (cc (none, h.1))

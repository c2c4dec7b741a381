-- Throws clauses by the bits of their classes.
use Rattle.std.proofs.Common.{◌≡◌, ℕ, ◌+◌, ◌*◌, ◌/◌, ◌%◌, ◌<◌, ◌≤◌, List, [], Some, inl, inr, ◌↔◌, Bool, IsTrue, refl, sym, ap, ◌∙◌, subst, length, bit_and, min, w64, arith}
use Rattle.std.specs.Prelude.{slice_get, replicate, ◌^◌}
use Rattle.std.specs.List.{Contains}
use Rattle.std.specs.Int.{bit_at, trailing_zeros}
use Rattle.std.proofs.lemmas.List.{length-replicate}
use Rattle.std.proofs.lemmas.Nat.{and_le_l}
use Rattle.std.proofs.lemmas.Nat.Bits.{bit_at-zero, bit_at-trailing_zeros}
use Rattle.std.proofs.lemmas.Option.{slice_get_within}
use Rattle.class_world.specs.declared.world.World.{World}
use Rattle.class_world.specs.declared.world.TypeInfo.{TypeInfo}
use Rattle.class_world.specs.declared.world.Above.{Above}
use Rattle.class_world.specs.declared.world.JavaType.{JavaType}
use Rattle.class_world.specs.declared.world.JavaType.TheVariants as ty
use Rattle.class_world.specs.Types.{with_own}
use Rattle.class_world.specs.Subtypes.{Subtype}
use Rattle.class_world.specs.Sound.{IsSet, IsSound}
use Rattle.class_world.specs.Merged.{Sets}
use Rattle.class_world.proofs.Forms.{same_class}
use Rattle.class_world.proofs.Orders.{class_parts}
use Rattle.class_world.proofs.Ways.{row_of}
use Rattle.class_world.proofs.Words.{both_told, set_within}
use Rattle.override_rules.specs.Judged.{AreAbove, AreClassBits, AreOfWorld, HaveCommonBit, IsBelowOne}
use Rattle.override_rules.proofs.Listed.{IsBefore, more_before, still_before, here_before, all_before, before_contained}
use Rattle.override_rules.proofs.Numbers.{low_or_last}

-- ---- bits that two lists of words have in common

abbrev pub NoneBefore : List ℕ → List ℕ → ℕ → Type 0
NoneBefore a b n = (g : ℕ) → g / 64 < n → IsSet a g → IsSet b g → ⊥

word_of : (i k : ℕ) → k < 64 → i ≡ (i * 64 + k) / 64
word_of i k lt = omega (arith, lt)

bit_of : (i k : ℕ) → k < 64 → k ≡ (i * 64 + k) % 64
bit_of i k lt = omega (arith, lt)

positive : (n : ℕ) → (n ≡ 0 → ⊥) → 0 < n
positive n some = grind (arith, some)

module _ (a b : List ℕ) (i x y : ℕ) (at_a : slice_get a i ≡ Some x) (at_b : slice_get b i ≡ Some y) where
  pub common_here : x < 2 ^ 64 → (bit_and x y ≡ 0 → ⊥) → HaveCommonBit a b
  common_here small some =
      let k = trailing_zeros w64 (bit_and x y) in
      let found = bit_at-trailing_zeros w64 (bit_and x y) (positive (bit_and x y) some) (omega (arith, and_le_l x y, small)) in
      let lt : k < 64 = found.0 in
      let both = (both_told a b i x y at_a at_b (i * 64 + k) (word_of i k lt)).1 (ap (bit_at (bit_and x y)) (sym (bit_of i k lt)) ∙ found.1) in
      (i * 64 + k, both.0, both.1)

  pub none_next : NoneBefore a b i → bit_and x y ≡ 0 → NoneBefore a b (i + 1)
  none_next before none g lt in_a in_b = elim (low_or_last (g / 64) i lt) [
    | inl low ↦ before g low in_a in_b
    | inr last ↦
        let one = (both_told a b i x y at_a at_b g (sym last)).0 (in_a, in_b) in
        let zero_is : bit_at (bit_and x y) (g % 64) ≡ 0 = ap (λ n. bit_at n (g % 64)) none ∙ bit_at-zero (g % 64) in
        absurd (omega (arith, one, zero_is))
  ]

pub none_common : (a b : List ℕ) (n : ℕ) → NoneBefore a b n → min (length a) (length b) ≤ n → HaveCommonBit a b → ⊥
none_common a b n none le h =
    let in_a = set_within a h.0 h.1 in
    let in_b = set_within b h.0 h.2 in
    none h.0 (omega (arith, in_a, in_b, le)) h.1 h.2

-- ---- the bits of the classes of a list of types

-- the types before a place are classes without arguments, and the words have the bits of these
pub record AreBitsBefore (types : List JavaType) (words : List ℕ) (n : ℕ) : Type 0 where
  pub classes : (t : JavaType) → IsBefore types n t → (g : ℕ) × (t ≡ ty.Class g [])
  pub bits : (g : ℕ) → IsSet words g ↔ IsBefore types n (ty.Class g [])

pub no_bits : (types : List JavaType) (words : List ℕ) → ((g : ℕ) → IsSet words g → ⊥) → AreBitsBefore types words 0
no_bits types words none = record {
  classes = λ t h. absurd (omega (arith, h.1));
  bits = λ g. (λ is. absurd (none g is), λ h. absurd (omega (arith, h.1)));
}

pub more_bits : (types : List JavaType) (old new : List ℕ) (i c : ℕ) (t : JavaType) → AreBitsBefore types old i → slice_get types i ≡ Some t → t ≡ ty.Class c [] → Sets old new c → AreBitsBefore types new (i + 1)
more_bits types old new i c t before at is sets = record {
  classes = λ u h. elim (more_before types i u t at h) [ inl was ↦ before.classes u was | inr e ↦ (c, e ∙ is) ];
  bits = λ g. (
    λ h. elim ((sets g).0 h) [
      | inl was ↦ still_before types i (ty.Class g []) ((before.bits g).0 was)
      | inr e ↦ subst (λ n. IsBefore types (i + 1) (ty.Class n [])) (sym e) (subst (IsBefore types (i + 1)) is (here_before types i t at))
    ],
    λ h. (sets g).1 (elim (more_before types i (ty.Class g []) t at h) [ inl was ↦ inl ((before.bits g).1 was) | inr e ↦ inr (same_class g c [] [] (e ∙ is)).0 ]),
  );
}

pub all_bits : (types : List JavaType) (words : List ℕ) (n : ℕ) → AreBitsBefore types words n → length types ≤ n → AreClassBits types words
all_bits types words n before le = record {
  classes = λ t on. before.classes t (all_before types n t le on);
  bits = λ g. (λ is. before_contained types n (ty.Class g []) ((before.bits g).0 is), λ on. (before.bits g).1 (all_before types n (ty.Class g []) le on));
}

-- a class of the world is within as many words as there are types by 64
pub class_within : (w : World) (types : List JavaType) (words : List ℕ) (n : ℕ) → AreOfWorld w types → words ≡ replicate n 0 → n ≡ length w.types / 64 + 1 → (g : ℕ) → Contains types (ty.Class g []) → g / 64 < length words
class_within w types words n all made size g on =
    let over = all (ty.Class g []) on in
    let known = class_parts w over.0 (ty.Class g []) g [] over.1 refl in
    let lt : g < length w.types = slice_get_within w.types g known.0 known.1 in
    let all_words : length words ≡ n = ap length made ∙ length-replicate n 0 in
    omega (arith, lt, all_words, size)

-- ---- what is above a type

pub above_told : (w : World) → IsSound w → (t : JavaType) (c : ℕ) (info : TypeInfo) (row : Above) (words : List ℕ) → t ≡ ty.Class c [] → slice_get w.types c ≡ Some info → info.params ≡ 0
    → slice_get w.above c ≡ Some row → words ≡ row.types → AreAbove w t words
above_told w sound t c info row words is at none there same =
    let own : with_own c info.params ≡ t = ap (with_own c) none ∙ sym is in
    subst (AreAbove w t) (sym same) (subst (λ u. AreAbove w u row.types) own (row_of w sound c info row at there).types)

pub below_told : (w : World) (e : JavaType) (upper : List JavaType) (row words : List ℕ) (r : Bool) → AreAbove w e row → AreClassBits upper words → IsTrue r ↔ HaveCommonBit row words → IsTrue r ↔ IsBelowOne w e upper
below_told w e upper row words r above are told = (
  λ yes. let h = told.0 yes in (ty.Class h.0 [], (are.bits h.0).0 h.2, (above h.0).0 h.1),
  λ h.
      let is = are.classes h.0 h.1 in
      told.1 (is.0, (above is.0).1 (subst (Subtype w e) is.1 h.2), (are.bits is.0).1 (subst (Contains upper) is.1 h.1)),
)

-- Numbers of erased signatures, given one after another.
use Rattle.std.proofs.Common.{◌≡◌, ℕ, ◌+◌, inl, inr, List, [], ◌∷◌, ◌++◌, None, Some, map, refl, sym, ap, ◌∙◌, length, arith}
use Rattle.std.specs.Prelude.{slice_get}
use Rattle.class_world.specs.declared.world.World.{World}
use Rattle.class_world.specs.declared.world.MethodInfo.{MethodInfo}
use Rattle.class_world.specs.declared.world.JavaType.{JavaType}
use Rattle.class_world.specs.Types.{erased}
use Rattle.class_world.proofs.Ends.{first_or_end}
use Rattle.java_tree.specs.declared.tree.Name.{Name}
use Rattle.signature_numbers.specs.Steps.{Steps}
use Rattle.signature_numbers.specs.Numbers.{AreApart, number_in}
use Rattle.inherited_rules.specs.Numbers.{AreErased}

-- the first i methods have their numbers
pub record AreFirst (w : World) (t : Steps) (numbers : List ℕ) (i : ℕ) : Type 0 where
  pub size : length numbers ≡ i
  pub told : (m : ℕ) (info : MethodInfo) (n : ℕ) → slice_get w.methods m ≡ Some info → slice_get numbers m ≡ Some n → number_in t info.name (map erased info.params) ≡ Some n
  pub apart : AreApart t

pub none_first : (w : World) (t : Steps) → ((a : Name) (ps : List JavaType) → number_in t a ps ≡ None) → AreFirst w t [] 0
none_first w t none = record {
  size = refl;
  told = λ m info n at e. let never : None ≡ Some n = e in absurd (cc never);
  apart = λ a b ps qs n e. let never : None ≡ Some n = sym (none a ps) ∙ e in absurd (cc never);
}

pub next_first : (w : World) (t new : Steps) (numbers more : List ℕ) (i n : ℕ) (info : MethodInfo) → slice_get w.methods i ≡ Some info → number_in new info.name (map erased info.params) ≡ Some n
    → ((a : Name) (ps : List JavaType) (k : ℕ) → number_in t a ps ≡ Some k → number_in new a ps ≡ Some k) → AreApart new → more ≡ numbers ++ n ∷ [] → AreFirst w t numbers i → AreFirst w new more (i + 1)
next_first w t new numbers more i n info at number kept apart pushed old = record {
  size = ap length pushed ∙ length_push numbers n ∙ ap (λ k. k + 1) old.size;
  told = λ m x k at_m e. elim (first_or_end numbers n k m (ap (λ l. slice_get l m) (sym pushed) ∙ e)) [
    | inl before ↦ kept x.name (map erased x.params) k (old.told m x k at_m before)
    | inr last ↦
        let same : info ≡ x = let both : Some info ≡ Some x = sym at ∙ ap (slice_get w.methods) (sym old.size ∙ sym last.1) ∙ at_m in cc both in
        ap (λ (y : MethodInfo). number_in new y.name (map erased y.params)) (sym same) ∙ number ∙ ap Some (sym last.0)
  ];
  apart = apart;
}
  where
    length_push : (xs : List ℕ) (x : ℕ) → length (xs ++ x ∷ []) ≡ length xs + 1
    length_push [] x = refl
    length_push (y ∷ xs) x = let rest = length_push xs x in omega (arith, rest)

pub all_first : (w : World) (t : Steps) (numbers : List ℕ) (i : ℕ) → length w.methods ≡ i → AreFirst w t numbers i → AreErased w numbers
all_first w t numbers i all first = record {
  size = first.size ∙ sym all;
  told = λ m k a b x y at_m at_k number_m number_k. (
    λ same. first.apart x.name y.name (map erased x.params) (map erased y.params) a (first.told m x a at_m number_m) (first.told k y b at_k number_k ∙ ap Some (sym same)),
    λ both.
        let one : Some a ≡ Some b = sym (first.told m x a at_m number_m) ∙ ap (λ n. number_in t n (map erased x.params)) both.0 ∙ ap (number_in t y.name) both.1 ∙ first.told k y b at_k number_k in
        cc one,
  );
}

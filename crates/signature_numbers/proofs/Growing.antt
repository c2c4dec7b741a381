-- A step that is given the next number.
use Rattle.std.proofs.Common.{◌≡◌, ℕ, ◌+◌, Bool, true, false, cond, nat_eq, Option, Some, ◌⊎◌, inl, inr, refl, sym, ap, ◌∙◌, subst, length, arith}
use Rattle.std.proofs.lemmas.Bool.{and_parts, eqb-true}
use Rattle.signature_numbers.specs.contracts.codes.PartPartialEq.TheImpl as the_parts
use Rattle.signature_numbers.specs.declared.codes.Part.{Part}
use Rattle.signature_numbers.specs.declared.codes.Part.TheVariants as part
use Rattle.signature_numbers.specs.declared.codes.Step.{Step}
use Rattle.signature_numbers.specs.Steps.{Steps, HasSteps, AreSteps, found_in, same_step}

abbrev same_part : Part → Part → Bool
same_part = (the_parts.eq-value).it

part_is : (a b : Part) → same_part a b ≡ true → a ≡ b
part_is (part.Named n) (part.Named m) e = ap part.Named (eqb-true n m e)
part_is part.Int part.Int e = refl
part_is part.Long part.Long e = refl
part_is part.Char part.Char e = refl
part_is part.Boolean part.Boolean e = refl
part_is part.Null part.Null e = refl
part_is (part.Class c n) (part.Class d m) e =
    let both = and_parts (nat_eq c d) (nat_eq n m) e in
    let classes = eqb-true c d both.0 in
    let counts = eqb-true n m both.1 in
    cc (classes, counts)
part_is (part.Var n) (part.Var m) e = ap part.Var (eqb-true n m e)
part_is part.Level part.Level e = refl
part_is a b e = absurd (cc e)

step_is : (k q : Step) → same_step k q ≡ true → k ≡ q
step_is k q e =
    let both = and_parts (nat_eq k.after q.after) (same_part k.part q.part) e in
    let rows = eqb-true k.after q.after both.0 in
    let ends = part_is k.part q.part both.1 in
    ap (λ x. (λ (r : Step). r) (record { after = x; part = k.part })) rows ∙ ap (λ x. (λ (r : Step). r) (record { after = q.after; part = x })) ends

module _ (old new : Step → Option ℕ) (key : Step) (count next : ℕ) (puts : (q : Step) → new q ≡ cond (same_step key q) (Some next) (old q))
    (is_next : next ≡ count + 1) (holds : AreSteps old count) where
  step_only : (q : Step) (k : ℕ) → new q ≡ Some k → (old q ≡ Some k) ⊎ ((key ≡ q) × (k ≡ next))
  step_only q k is = go (same_step key q) refl
    where
      go : (b : Bool) → same_step key q ≡ b → (old q ≡ Some k) ⊎ ((key ≡ q) × (k ≡ next))
      go true e =
          let here : Some next ≡ Some k = sym (puts q ∙ ap (λ b. cond b (Some next) (old q)) e) ∙ is in
          inr (step_is key q e, cc here)
      go false e = inl (sym (puts q ∙ ap (λ b. cond b (Some next) (old q)) e) ∙ is)

  steps_more : AreSteps new (count + 1)
  steps_more = record {
    some = λ q n e. elim (step_only q n e) [ inl was ↦ holds.some q n was | inr here ↦ let is = here.1 in omega (arith, is, is_next) ];
    below = λ q n e. elim (step_only q n e) [ inl was ↦ let low = holds.below q n was in omega (arith, low) | inr here ↦ let is = here.1 in omega (arith, is, is_next) ];
    apart = λ j k n f e. elim (step_only j n f) [
      | inl was ↦ elim (step_only k n e) [ inl too ↦ holds.apart j k n was too | inr here ↦ let low = holds.below j n was in let is = here.1 in absurd (omega (arith, low, is, is_next)) ]
      | inr here ↦ elim (step_only k n e) [
        | inl was ↦ let low = holds.below k n was in let is = here.1 in absurd (omega (arith, low, is, is_next))
        | inr too ↦ sym here.0 ∙ too.0
      ]
    ];
  }

-- of maps

module _ (old new : Steps) (key : Step) (next : ℕ) (puts : (q : Step) → found_in new q ≡ cond (same_step key q) (Some next) (found_in old q))
    (is_next : next ≡ length old + 1) (holds : HasSteps old) where
  pub added_has : length new ≡ length old + 1 → HasSteps new
  added_has len = subst (AreSteps (found_in new)) (sym len) (steps_more (found_in old) (found_in new) key (length old) next puts is_next holds)

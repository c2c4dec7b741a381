-- Loops over the numbers of one kind, for two running programs.
use Rattle.std.proofs.Common.{◌≡◌, ℕ, ◌+◌, ◌<◌, Bool, true, false, refl, sym, subst, below_more}
use Rattle.core_meaning.specs.Code.{Code}
use Rattle.running_code.specs.declared.running.Running.{Running}
use Rattle.alike_tables.specs.Tables.{AllBelow, Both, TellsWhether}

-- P says that one number is what the other one is, and t where numbers go
module _ (g h : Running) (P : Code → Code → ℕ → ℕ → Type 0) (t : ℕ → ℕ) where
  abbrev Kept : ℕ → Code → Code → Type 0
  Kept n c c' = AllBelow n (λ j. P c c' j (t j))

  pub grown : (k to : ℕ) (r : Bool) → to ≡ t k → TellsWhether g h r (λ c c'. P c c' k to) → r ≡ true → Both g h (Kept k) → Both g h (Kept (k + 1))
  grown k to r same decides holds all c c' code code' =
      below_more (λ j. P c c' j (t j)) k (all c c' code code') (subst (P c c' k) same ((decides c c' code code').0 holds))

  pub refused : (n k to : ℕ) (r : Bool) → k < n → to ≡ t k → TellsWhether g h r (λ c c'. P c c' k to) → r ≡ false → TellsWhether g h false (Kept n)
  refused n k to r low same decides fails c c' code code' = (
    λ holds. absurd (cc holds),
    λ all. let is = (decides c c' code code').1 (subst (P c c' k) (sym same) (all k low)) in absurd (cc (is, fails)),
  )

  pub finished : (n : ℕ) → Both g h (Kept n) → TellsWhether g h true (Kept n)
  finished n all c c' code code' = (λ holds. all c c' code code', λ kept. refl)

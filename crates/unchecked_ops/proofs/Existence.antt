-- That there are casts, by the excluded middle of which are unchecked.
use Rattle.std.proofs.Common.{Bool, true, false, ◌⊎◌, inl, inr, ◌↔◌, refl}
use Rattle.std.specs.Prelude.{IsTrue}
use Rattle.unchecked_ops.specs.Laws.{HaveCasts}

abbrev test : {P : Type 0} → P ⊎ (P → ⊥) → Bool
test (inl h) = true
test (inr h) = false

tells : {P : Type 0} (d : P ⊎ (P → ⊥)) → IsTrue (test d) ↔ P
tells (inl h) = (λ e. h, λ k. refl)
tells (inr h) = (λ e. absurd (cc e), λ k. absurd (h k))

pub casts : HaveCasts
casts w decided = (λ s t. test (decided s t), record { says = λ s t. tells (decided s t) })

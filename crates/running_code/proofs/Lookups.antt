-- The method that runs is one alone, where no class has two superclasses.
use Rattle.std.proofs.Common.{◌≡◌, ℕ, ◌<◌, Option, Some, None, refl, ap, subst, arith}
use Rattle.class_world.specs.declared.world.World.{World}
use Rattle.class_world.specs.Overriding.{IsAnswer, here, further, IsFound, fixed, chosen, FoundIs}
use Rattle.running_code.specs.Running.{HaveOneSuperclass}

lowest : (j k : ℕ) → (j < k → ⊥) → (k < j → ⊥) → j ≡ k
lowest j k h i = omega (arith, h, i)

module _ (w : World) (single : HaveOneSuperclass w) where
  one_answer : (o m c j k : ℕ) → IsAnswer w o m c j → IsAnswer w o m c k → j ≡ k
  one_answer o m c j k (here a least) (here b low) = lowest j k (λ h. low j h a) (λ h. least k h b)
  one_answer o m c j k (here a least) (further none up i) = absurd (none j a)
  one_answer o m c j k (further none up i) (here a least) = absurd (none k a)
  one_answer o m c j k (further {s = s} none up i) (further {s = t} other above h) = one_answer o m s j k i (subst (λ x. IsAnswer w o m x k) (single c t s above up) h)

  one_found : (m c j k : ℕ) → IsFound w m c j → IsFound w m c k → j ≡ k
  one_found m c j k (fixed h) (fixed i) = refl
  one_found m c j k (fixed h) (chosen none i) = absurd (none h)
  one_found m c j k (chosen none i) (fixed h) = absurd (none h)
  one_found m c j k (chosen none i) (chosen other h) = one_answer c m c j k i h

  pub same_found : (m c : ℕ) (r s : Option ℕ) → FoundIs w m c r → FoundIs w m c s → r ≡ s
  same_found m c None None h i = refl
  same_found m c None (Some k) h i = absurd (h k i)
  same_found m c (Some j) None h i = absurd (i j h)
  same_found m c (Some j) (Some k) h i = ap Some (one_found m c j k h i)

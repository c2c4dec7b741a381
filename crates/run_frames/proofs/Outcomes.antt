-- Ways to go on, one behind the other.
use Rattle.std.proofs.Common.{◌≡◌, refl}
use Rattle.core_meaning.specs.declared.values.State.{State}
use Rattle.core_meaning.specs.Outcome.{Outcome, Gives, Threw, Bound, and_then}

-- what two ways do behind one outcome is the same where it is the same behind each value
pub same_then : {A B : Type 0} (o : Outcome A) (f g : A → State → Outcome B) → ((a : A) (s : State) → f a s ≡ g a s) → and_then o f ≡ and_then o g
same_then (Gives a s) f g h = h a s
same_then (Threw k s) f g h = refl
same_then (Bound s) f g h = refl

pub then_then : {A B C : Type 0} (o : Outcome A) (f : A → State → Outcome B) (g : B → State → Outcome C) → and_then (and_then o f) g ≡ and_then o (λ a s. and_then (f a s) g)
then_then (Gives a s) f g = refl
then_then (Threw k s) f g = refl
then_then (Bound s) f g = refl

-- Two ways from one outcome to the same: behind f by g, and behind h by k.
pub two_ways : {A B C D : Type 0} (o : Outcome A) (f : A → State → Outcome B) (g : B → State → Outcome D) (h : A → State → Outcome C) (k : C → State → Outcome D)
    → ((a : A) (s : State) → and_then (f a s) g ≡ and_then (h a s) k) → and_then (and_then o f) g ≡ and_then (and_then o h) k
two_ways (Gives a s) f g h k e = e a s
two_ways (Threw n s) f g h k e = refl
two_ways (Bound s) f g h k e = refl

pub then_gives : {A : Type 0} (o : Outcome A) → and_then o (λ a s. Gives a s) ≡ o
then_gives (Gives a s) = refl
then_gives (Threw k s) = refl
then_gives (Bound s) = refl

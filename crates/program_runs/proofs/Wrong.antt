-- A misfit, whatever is waited for, and answers at a try.
use Rattle.std.proofs.Common.{◌≡◌, ℕ, ap, refl}
use Rattle.core_meaning.specs.declared.values.State.{State}
use Rattle.core_meaning.specs.Outcome.{Outcome, Gives, Threw, Bound, misfit, with_some}
use Rattle.run_frames.specs.declared.focus.Answer.{Answer}
use Rattle.run_frames.specs.declared.focus.Answer.TheVariants as an
use Rattle.run_frames.specs.Frames.{endings}
use Rattle.program_runs.specs.Ends.{ending_in}

abbrev retyped : {A B : Type 0} → Outcome A → Outcome B
retyped (Gives a s) = Bound s
retyped (Threw k s) = Threw k s
retyped (Bound s) = Bound s

pub misfit_as : {A B : Type 0} (s new : State) (k : ℕ) → misfit {A = A} s ≡ Threw k new → misfit {A = B} s ≡ Threw k new
misfit_as s new k e = ap retyped e

pub endings_of : (a : Answer) (s : State) → with_some (ending_in a) s (λ e. Gives e s) ≡ endings (Gives a s)
endings_of (an.Value x) s = refl
endings_of (an.Variable x) s = refl
endings_of (an.Truth x) s = refl
endings_of (an.Units x) s = refl
endings_of (an.Values x) s = refl
endings_of (an.Ending x) s = refl
endings_of an.Nothing s = refl

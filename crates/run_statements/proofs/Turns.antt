-- Steps of loops.
use Rattle.std.proofs.Common.{◌≡◌, suc, sym, ap}
use Rattle.core_meaning.specs.declared.values.State.{State}
use Rattle.core_meaning.specs.Outcome.{Outcome, Bound, step, step_at}

-- behind a step that was taken
pub stepped : {A : Type 0} (old new : State) (go : State → Outcome A) → old ≡ record new { left = suc new.left } → go new ≡ step old go
stepped old new go is = sym (ap (λ s. step s go) is)

-- where none is left
pub no_step : {A : Type 0} (s : State) (go : State → Outcome A) → s.left ≡ 0 → Bound s ≡ step s go
no_step s go is = sym (ap (λ n. step_at n s go) is)

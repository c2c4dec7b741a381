use Rattle.std.proofs.Common.{◌≡◌}
use Rattle.core_meaning.specs.Code.{Code}
use Rattle.running_code.specs.Running.{IsCode}
use Rattle.run_frames.specs.Runs.{whole}
use Rattle.program_runs.proofs.steps.run_out.Given as goal

abbrev pub invariant-loop : goal.invariant-loop
invariant-loop l = (c : Code) → IsCode l.g c → whole c l.run l.focus ≡ whole c l.initial.run l.initial.focus

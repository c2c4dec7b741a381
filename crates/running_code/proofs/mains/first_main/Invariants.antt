use Rattle.std.proofs.Common.{◌≡◌, drop}
use Rattle.std.specs.List.{find}
use Rattle.core_meaning.specs.Code.{Code}
use Rattle.core_meaning.specs.Runs as runs
use Rattle.running_code.specs.Running.{IsCode}
use Rattle.running_code.proofs.mains.first_main.Given as goal

abbrev pub invariant-loop-method : goal.invariant-loop-method
invariant-loop-method l = (c : Code) → IsCode l.g c → find (runs.is_main c) (drop l.method-index l.methods) ≡ find (runs.is_main c) l.methods

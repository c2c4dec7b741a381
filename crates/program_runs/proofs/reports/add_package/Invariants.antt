use Rattle.std.proofs.Common.{◌≡◌, ◌++◌, drop}
use Rattle.core_meaning.specs.Code.{Code}
use Rattle.core_meaning.specs.Classes.{package_units}
use Rattle.running_code.specs.Running.{IsCode}
use Rattle.program_runs.proofs.reports.add_package.Given as goal

abbrev pub invariant-loop-part : goal.invariant-loop-part
invariant-loop-part l = (c : Code) → IsCode l.g c → l.to ++ package_units c (drop l.part-index l.parts) ≡ l.initial.to ++ package_units c l.parts

use Rattle.std.proofs.Common.{◌≡◌, drop}
use Rattle.core_meaning.specs.Statements.{has_default}
use Rattle.run_statements.proofs.switches.has_default.Given as goal

abbrev pub invariant-loop-label : goal.invariant-loop-label
invariant-loop-label l = has_default (drop l.label-index l.labels) ≡ has_default l.labels

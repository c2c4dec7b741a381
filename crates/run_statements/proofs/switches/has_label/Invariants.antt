use Rattle.std.proofs.Common.{◌≡◌, drop}
use Rattle.core_meaning.specs.Statements.{has_label}
use Rattle.run_statements.proofs.switches.has_label.Given as goal

abbrev pub invariant-loop-label : goal.invariant-loop-label
invariant-loop-label l = has_label l.number (drop l.label-index l.labels) ≡ has_label l.number l.labels

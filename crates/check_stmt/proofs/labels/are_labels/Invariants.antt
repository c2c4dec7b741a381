use Rattle.std.proofs.Common.{◌≡◌, ◌++◌, drop, map}
use Rattle.check_stmt.specs.Labels as spec
use Rattle.check_stmt.proofs.labels.are_labels.Given as goal

abbrev pub invariant-loop-label : goal.invariant-loop-label
invariant-loop-label l = record {
  rest : spec.are_labels l.on_char l.seen (drop l.label-index l.labels) ≡ spec.are_labels l.on_char l.fn.seen l.labels;
  seen : l.seen ++ map spec.value_of (drop l.label-index l.labels) ≡ l.fn.seen ++ map spec.value_of l.labels;
}

use Rattle.std.proofs.Common.{◌≡◌, drop, map}
use Rattle.std.specs.Option.{option_map}
use Rattle.java_tree.specs.View as view
use Rattle.checked.specs.Checked.{behind}
use Rattle.check_stmt.specs.Labels as spec
use Rattle.check_stmt.proofs.labels.labels.Given as goal

abbrev pub invariant-loop-e : goal.invariant-loop-e
invariant-loop-e l = behind l.done (spec.labels (map (option_map view.plain) (drop l.e-index l.es))) ≡ spec.labels (map (option_map view.plain) l.es)

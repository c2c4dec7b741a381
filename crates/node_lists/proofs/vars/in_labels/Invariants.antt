use Rattle.std.proofs.Common.{map, drop, ◌≡◌}
use Rattle.std.specs.Option.{option_map}
use Rattle.java_tree.specs.View.{plain}
use Rattle.node_lists.specs.Nodes as spec
use Rattle.node_lists.proofs.vars.in_labels.Given as goal

abbrev pub invariant-loop-e : goal.invariant-loop-e
invariant-loop-e l = spec.labels (map (option_map plain) (drop l.e-index l.es)) l.nodes ≡ spec.labels (map (option_map plain) l.es) l.fn.nodes

use Rattle.std.proofs.Common.{map, drop, ◌≡◌}
use Rattle.std.specs.Option.{option_map}
use Rattle.java_tree.specs.View.{plain}
use Rattle.node_places.specs.Seek as seek
use Rattle.node_places.proofs.vars.in_labels.Given as goal

abbrev pub invariant-loop-e : goal.invariant-loop-e
invariant-loop-e l = seek.labels l.number (map (option_map plain) (drop l.e-index l.es)) ≡ seek.labels l.number (map (option_map plain) l.es)

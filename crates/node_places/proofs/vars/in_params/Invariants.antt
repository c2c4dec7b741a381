use Rattle.std.proofs.Common.{map, drop, ◌≡◌}
use Rattle.java_tree.specs.View.{param_plain}
use Rattle.node_places.specs.Seek as seek
use Rattle.node_places.proofs.vars.in_params.Given as goal

abbrev pub invariant-loop-p : goal.invariant-loop-p
invariant-loop-p l = seek.params l.number (map param_plain (drop l.p-index l.ps)) ≡ seek.params l.number (map param_plain l.ps)

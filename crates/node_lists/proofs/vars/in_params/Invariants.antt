use Rattle.std.proofs.Common.{map, drop, ◌≡◌}
use Rattle.java_tree.specs.View.{param_plain}
use Rattle.node_lists.specs.Nodes as spec
use Rattle.node_lists.proofs.vars.in_params.Given as goal

abbrev pub invariant-loop-p : goal.invariant-loop-p
invariant-loop-p l = spec.params (map param_plain (drop l.p-index l.ps)) l.nodes ≡ spec.params (map param_plain l.ps) l.fn.nodes

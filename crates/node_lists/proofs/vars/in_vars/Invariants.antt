use Rattle.std.proofs.Common.{map, drop, ◌≡◌}
use Rattle.java_tree.specs.View.{var_plain}
use Rattle.node_lists.specs.Nodes as spec
use Rattle.node_lists.proofs.vars.in_vars.Given as goal

abbrev pub invariant-loop-v : goal.invariant-loop-v
invariant-loop-v l = spec.vars (map var_plain (drop l.v-index l.vs)) l.nodes ≡ spec.vars (map var_plain l.vs) l.fn.nodes

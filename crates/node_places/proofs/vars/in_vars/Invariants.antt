use Rattle.std.proofs.Common.{map, drop, ◌≡◌}
use Rattle.java_tree.specs.View.{var_plain}
use Rattle.node_places.specs.Seek as seek
use Rattle.node_places.proofs.vars.in_vars.Given as goal

abbrev pub invariant-loop-v : goal.invariant-loop-v
invariant-loop-v l = seek.vars l.number (map var_plain (drop l.v-index l.vs)) ≡ seek.vars l.number (map var_plain l.vs)

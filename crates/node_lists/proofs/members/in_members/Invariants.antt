use Rattle.std.proofs.Common.{map, drop, ◌≡◌}
use Rattle.java_tree.specs.View.{member_plain}
use Rattle.node_lists.specs.Nodes as spec
use Rattle.node_lists.proofs.members.in_members.Given as goal

abbrev pub invariant-loop-m : goal.invariant-loop-m
invariant-loop-m l = spec.members (map member_plain (drop l.m-index l.ms)) l.nodes ≡ spec.members (map member_plain l.ms) l.fn.nodes

use Rattle.std.proofs.Common.{map, drop, ◌≡◌}
use Rattle.java_tree.specs.View.{member_plain}
use Rattle.node_places.specs.Seek as seek
use Rattle.node_places.proofs.members.in_members.Given as goal

abbrev pub invariant-loop-m : goal.invariant-loop-m
invariant-loop-m l = seek.members l.number (map member_plain (drop l.m-index l.ms)) ≡ seek.members l.number (map member_plain l.ms)

use Rattle.std.proofs.Common.{map, drop, ◌≡◌}
use Rattle.java_tree.specs.View.{decl_plain}
use Rattle.node_places.specs.Seek as seek
use Rattle.node_places.proofs.members.in_decls.Given as goal

abbrev pub invariant-loop-d : goal.invariant-loop-d
invariant-loop-d l = seek.decls l.number (map decl_plain (drop l.d-index l.ds)) ≡ seek.decls l.number (map decl_plain l.ds)

use Rattle.std.proofs.Common.{map, drop, ◌≡◌}
use Rattle.java_tree.specs.View.{decl_plain}
use Rattle.node_lists.specs.Nodes as spec
use Rattle.node_lists.proofs.members.in_decls.Given as goal

abbrev pub invariant-loop-d : goal.invariant-loop-d
invariant-loop-d l = spec.decls (map decl_plain (drop l.d-index l.ds)) l.nodes ≡ spec.decls (map decl_plain l.ds) l.fn.nodes

use Rattle.std.proofs.Common.{Bool, map, drop, ◌≡◌}
use Rattle.java_tree.specs.View.{decl_plain}
use Rattle.java_tree.specs.declared.tree.Name.{Name}
use Rattle.decl_rules.specs.Generic.{Told}
use Rattle.decl_rules.specs.Walk as spec
use Rattle.decl_rules.proofs.members.walk_decls.Given as goal

abbrev pub invariant-loop-d : goal.invariant-loop-d
invariant-loop-d g l = (generic : Name → Bool) → Told (g.G.GenericNames.answers l.names) generic → spec.decls generic (map decl_plain (drop l.d-index l.types)) l.first ≡ spec.decls generic (map decl_plain l.types) l.fn.first

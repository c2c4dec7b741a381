use Rattle.std.proofs.Common.{map, drop, ◌≡◌, None}
use Rattle.java_tree.specs.View.{decl_plain}
use Rattle.decl_rules.specs.DeclaredLooks as spec
use Rattle.decl_rules.proofs.declared.look_at_types.Given as goal

abbrev pub invariant-loop-d : goal.invariant-loop-d
invariant-loop-d l = spec.wrong_types (map decl_plain (drop l.d-index l.types)) l.first ≡ spec.wrong_types (map decl_plain l.types) None

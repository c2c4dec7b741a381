use Rattle.std.proofs.Common.{map, drop, ◌≡◌}
use Rattle.java_tree.specs.View.{decl_plain}
use Rattle.decl_rules.specs.Looks as spec
use Rattle.decl_rules.proofs.plain.look_at_types.Given as goal

abbrev pub invariant-loop-d : goal.invariant-loop-d
invariant-loop-d l = spec.plain_types l.user l.names (map decl_plain (drop l.d-index l.types)) l.first ≡ spec.plain_types l.user l.names (map decl_plain l.types) l.fn.first

use Rattle.std.proofs.Common.{map, drop, ◌≡◌}
use Rattle.java_tree.specs.View.{decl_plain, member_plain}
use Rattle.decl_rules.specs.DeclaredLooks as spec
use Rattle.decl_rules.proofs.declared.look_at_members.Given as goal

abbrev pub invariant-loop-m : goal.invariant-loop-m
invariant-loop-m l = spec.wrong_members (decl_plain l.d) (map member_plain (drop l.m-index l.d.members)) l.first ≡ spec.wrong_members (decl_plain l.d) (map member_plain l.d.members) l.fn.first

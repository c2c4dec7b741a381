use Rattle.std.proofs.Common.{map, drop, ◌≡◌}
use Rattle.java_tree.specs.View.{member_plain, decl_plain}
use Rattle.decl_rules.specs.Looks as spec
use Rattle.decl_rules.proofs.plain.look_at_type.Given as goal

abbrev pub invariant-loop-m : goal.invariant-loop-m
invariant-loop-m l = spec.plain_members l.user l.names (decl_plain l.d) (map member_plain (drop l.m-index l.d.members)) l.first ≡ spec.plain_members l.user l.names (decl_plain l.d) (map member_plain l.d.members) l.initial.first

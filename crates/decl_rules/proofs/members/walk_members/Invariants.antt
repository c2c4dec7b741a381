use Rattle.std.proofs.Common.{Bool, map, drop, ◌≡◌}
use Rattle.java_tree.specs.View.{member_plain}
use Rattle.java_tree.specs.declared.tree.Name.{Name}
use Rattle.decl_rules.specs.Generic.{Told}
use Rattle.decl_rules.specs.Walk as spec
use Rattle.decl_rules.proofs.members.walk_members.Given as goal

abbrev pub invariant-loop-m : goal.invariant-loop-m
invariant-loop-m g l = (generic : Name → Bool) → Told (g.G.GenericNames.answers l.generics.names.now) generic → spec.members (spec.is_nested generic l.generics.vars.now) (map member_plain (drop l.m-index l.members)) l.first ≡ spec.members (spec.is_nested generic l.generics.vars.now) (map member_plain l.members) l.fn.first

use Rattle.std.proofs.Common.{drop, ◌≡◌}
use Rattle.decl_rules.specs.DeclaredLooks as spec
use Rattle.decl_rules.proofs.modifiers.has_other.Given as goal

abbrev pub invariant-loop-m : goal.invariant-loop-m
invariant-loop-m l = spec.has_other l.allowed (drop l.m-index l.mods) ≡ spec.has_other l.allowed l.mods

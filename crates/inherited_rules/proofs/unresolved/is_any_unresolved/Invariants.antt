use Rattle.std.proofs.Common.{ℕ}
use Rattle.std.specs.List.{Contains}
use Rattle.class_world.specs.Overriding.{Overriding}
use Rattle.inherited_rules.specs.Parts.{IsUnresolvedWith}
use Rattle.inherited_rules.proofs.Named.{AreClear}
use Rattle.inherited_rules.proofs.unresolved.is_any_unresolved.Given as goal

abbrev pub invariant-loop-m : goal.invariant-loop-m
invariant-loop-m l = AreClear (λ (m : ℕ). (Overriding l.w l.first m → ⊥) × IsUnresolvedWith l.w l.c (Contains l.tops) l.methods m) l.methods l.m-index

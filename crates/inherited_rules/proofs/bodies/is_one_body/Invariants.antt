use Rattle.class_world.specs.Overriding.{Overriding}
use Rattle.inherited_rules.specs.Rules.{IsAbstractMethod}
use Rattle.inherited_rules.proofs.Named.{AreClear}
use Rattle.inherited_rules.proofs.bodies.is_one_body.Given as goal

abbrev pub invariant-loop-k : goal.invariant-loop-k
invariant-loop-k l = AreClear (λ k. (IsAbstractMethod l.w k → ⊥) × Overriding l.w k l.m) l.methods l.k-index

use Rattle.inherited_rules.specs.Rules.{IsAbstractMethod}
use Rattle.member_methods.proofs.Firsts.{Keeps}
use Rattle.inherited_rules.proofs.bodies.with_bodies.Given as goal

abbrev pub invariant-loop-k : goal.invariant-loop-k
invariant-loop-k l = Keeps (λ k. IsAbstractMethod l.w k → ⊥) l.methods l.found.items l.k-index

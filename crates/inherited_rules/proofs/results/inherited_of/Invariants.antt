use Rattle.class_world.specs.Inheritance.{DeclaresMethod}
use Rattle.member_methods.proofs.Firsts.{Keeps}
use Rattle.inherited_rules.proofs.results.inherited_of.Given as goal

abbrev pub invariant-loop-k : goal.invariant-loop-k
invariant-loop-k l = Keeps (λ k. DeclaresMethod l.w l.c k → ⊥) l.members l.found.items l.k-index

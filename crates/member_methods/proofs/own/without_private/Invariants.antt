use Rattle.class_world.specs.Inheritance.{IsPrivateMethod}
use Rattle.member_methods.proofs.Firsts.{Keeps}
use Rattle.member_methods.proofs.own.without_private.Given as goal

abbrev pub invariant-loop-m : goal.invariant-loop-m
invariant-loop-m l = Keeps (λ m. IsPrivateMethod l.w m → ⊥) l.methods l.open.items l.m-index

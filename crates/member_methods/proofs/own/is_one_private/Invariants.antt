use Rattle.std.proofs.Common.{ℕ}
use Rattle.class_world.specs.Inheritance.{IsPrivateMethod}
use Rattle.member_methods.proofs.Firsts.{Among}
use Rattle.member_methods.proofs.own.is_one_private.Given as goal

abbrev pub invariant-loop-m : goal.invariant-loop-m
invariant-loop-m l = (m : ℕ) → Among l.methods l.m-index m → IsPrivateMethod l.w m → ⊥

use Rattle.std.proofs.Common.{ℕ}
use Rattle.class_world.specs.Inheritance.{IsMemberMethod}
use Rattle.method_ties.proofs.Firsts.{Among}
use Rattle.method_ties.proofs.meet.is_of_one.Given as goal

abbrev pub invariant-loop-s : goal.invariant-loop-s
invariant-loop-s l = (s : ℕ) → Among l.types l.s-index s → IsMemberMethod l.w s l.m → ⊥

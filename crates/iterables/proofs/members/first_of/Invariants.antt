use Rattle.std.proofs.Common.{ℕ}
use Rattle.class_world.specs.Counted.{IsOfClass}
use Rattle.member_methods.proofs.Firsts.{Among}
use Rattle.iterables.proofs.members.first_of.Given as goal

abbrev pub invariant-loop-m : goal.invariant-loop-m
invariant-loop-m l = (k : ℕ) → Among l.methods l.m-index k → IsOfClass l.w k → ⊥

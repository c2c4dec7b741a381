use Rattle.std.proofs.Common.{ℕ}
use Rattle.method_groups.specs.Labels.{IsLabelled}
use Rattle.method_groups.proofs.Firsts.{Among}
use Rattle.method_groups.proofs.labels.Labels.are_joined.Given as goal

abbrev pub invariant-loop-m : goal.invariant-loop-m
invariant-loop-m l = (k : ℕ) → Among l.methods l.m-index k → IsLabelled l.self k l.x

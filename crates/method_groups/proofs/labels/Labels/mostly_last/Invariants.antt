use Rattle.std.proofs.Common.{ℕ, ◌≤◌, IfSome}
use Rattle.method_groups.specs.Labels.{IsLabelled}
use Rattle.method_groups.proofs.labels.Labels.mostly_last.Given as goal

abbrev pub invariant-loop-m : goal.invariant-loop-m
invariant-loop-m l = record {
  found : IfSome l.most (λ x. (m : ℕ) × IsLabelled l.self m x);
  low : l.lead ≤ l.m-index;
}

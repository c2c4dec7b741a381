use Rattle.std.proofs.Common.{ℕ}
use Rattle.method_groups.specs.Labels.{AreLabels, KeepsJoined}
use Rattle.method_groups.proofs.Firsts.{Among}
use Rattle.method_groups.proofs.Joins.{AreAllBeside, IsPassed}
use Rattle.method_groups.proofs.types.add_type.Given as goal

abbrev pub invariant-loop-m : goal.invariant-loop-m
invariant-loop-m l = record {
  labels : AreLabels l.w l.labels;
  kept : KeepsJoined l.fn.labels l.labels;
  passed : IsPassed l.w l.c l.labels l.last;
  all : (j : ℕ) → Among l.m-items l.m-index j → AreAllBeside l.w l.c l.labels j;
}

use Rattle.std.proofs.Common.{ℕ, ◌<◌, vec_len}
use Rattle.method_groups.specs.Labels.{AreLabels}
use Rattle.method_groups.proofs.Joins.{AreDone, IsDone}
use Rattle.method_groups.proofs.types.labels_of.Given as goal

abbrev pub invariant-loop-c : goal.invariant-loop-c
invariant-loop-c l = record {
  labels : AreLabels l.w l.labels;
  done : AreDone l.w l.labels l.order.items;
}

abbrev pub decreases-loop-c : goal.decreases-loop-c
decreases-loop-c l = vec_len l.order

abbrev pub invariant-loop-past : goal.invariant-loop-past
invariant-loop-past l = record {
  labels : AreLabels l.w l.labels;
  done : (c : ℕ) → c < l.past → IsDone l.w l.labels c;
}

use Rattle.std.proofs.Common.{◌≡◌, IfSome, length}
use Rattle.method_groups.specs.Labels.{AreAdditions, IsDifference, IsFit}
use Rattle.method_groups.proofs.Joins.{AreAdded}
use Rattle.method_groups.proofs.labels.Labels.add.Given as goal

abbrev pub invariant-loop-m : goal.invariant-loop-m
invariant-loop-m l = record {
  fit : IsFit l.self;
  size : length l.self.labels.items ≡ length l.fn.self.labels.items;
  added : AreAdded l.fn.self l.self l.x l.methods l.m-index;
  additions : AreAdditions l.w l.self.rows.items l.self.added.items;
  difference : IfSome l.fewer (IsDifference l.w l.self.added.items l.methods);
}

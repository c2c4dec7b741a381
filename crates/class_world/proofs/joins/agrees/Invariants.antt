use Rattle.std.proofs.Common.{◌≡◌, ◌+◌, ◌/◌, length}
use Rattle.class_world.specs.Meets.{ArePaths, AreSettled}
use Rattle.class_world.proofs.joins.agrees.Given as goal

abbrev pub invariant-loop : goal.invariant-loop
invariant-loop l = record {
  len : length l.settled ≡ length l.rows.listed / 64 + 1;
  settled : AreSettled l.w l.rows.listed l.supers l.at l.settled;
  paths : ArePaths l.w l.paths;
}

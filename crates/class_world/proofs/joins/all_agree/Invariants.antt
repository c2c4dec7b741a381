use Rattle.std.proofs.Common.{◌≡◌, length}
use Rattle.class_world.specs.Meets.{AgreeBefore, ArePaths, HaveBits}
use Rattle.class_world.proofs.joins.all_agree.Given as goal

abbrev pub invariant-loop-at : goal.invariant-loop-at
invariant-loop-at l = record {
  len : length l.above ≡ length l.fn.above;
  agree : AgreeBefore l.w l.supers l.at;
  bits : HaveBits l.w l.rows.listed l.supers l.at l.above;
  paths : ArePaths l.w l.paths;
}

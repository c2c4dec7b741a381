use Rattle.std.proofs.Common.{arith}
use Rattle.primitive_operators.proofs.Wraps.{quotient_long}
use Rattle.primitive_operators.proofs.longs.divided.Goals as goal

pub returns : goal.returns
returns c = rw (quotient_long _ _ _ c.ranges.x c.ranges.y c.wrapping_div.ensures) (grind arith)

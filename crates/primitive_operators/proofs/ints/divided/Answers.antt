use Rattle.std.proofs.Common.{arith}
use Rattle.primitive_operators.proofs.Wraps.{quotient_int}
use Rattle.primitive_operators.proofs.ints.divided.Goals as goal

pub returns : goal.returns
returns c = rw (quotient_int _ _ _ c.ranges.x c.ranges.y c.wrapping_div.ensures) (grind arith)

use Rattle.std.proofs.Common.{nat_eq}
use Rattle.std.specs.HashMap.{get}
use Rattle.counted_methods.specs.Chosen.{IsBest}
use Rattle.counted_methods.proofs.chosen.preferred.Given as goal

abbrev pub invariant-loop-i : goal.invariant-loop-i
invariant-loop-i l = IsBest l.w l.above l.methods l.signs l.i (get nat_eq l.best)

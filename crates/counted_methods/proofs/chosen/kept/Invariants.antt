use Rattle.std.proofs.Common.{nat_eq}
use Rattle.std.specs.HashMap.{get}
use Rattle.counted_methods.proofs.Choosing.{AreKeptFirst}
use Rattle.counted_methods.proofs.chosen.kept.Given as goal

abbrev pub invariant-loop-i : goal.invariant-loop-i
invariant-loop-i l = AreKeptFirst (get nat_eq l.best) l.methods l.signs l.kept.items l.i

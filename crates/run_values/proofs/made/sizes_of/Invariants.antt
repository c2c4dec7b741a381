-- The sizes so far are those of the ints before this one.
use Rattle.std.proofs.Common.{◌≡◌, map, take}
use Rattle.std.specs.Prelude.{unsigned_abs}
use Rattle.run_values.proofs.made.sizes_of.Given as goal

abbrev pub invariant-loop-z : goal.invariant-loop-z
invariant-loop-z l = l.sizes ≡ map unsigned_abs (take l.z-index l.ints)

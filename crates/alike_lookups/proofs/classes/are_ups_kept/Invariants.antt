use Rattle.std.proofs.Common.{ℕ, ◌<◌}
use Rattle.program_maps.specs.Ways.{goes_to}
use Rattle.alike_lookups.specs.Classes.{IsUpKept}
use Rattle.alike_lookups.proofs.classes.are_ups_kept.Given as goal

abbrev pub invariant-loop-class : goal.invariant-loop-class
invariant-loop-class l = (k : ℕ) → k < l.class → IsUpKept l.old l.new (goes_to l.types) k

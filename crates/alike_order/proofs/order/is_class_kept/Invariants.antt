use Rattle.std.proofs.Common.{ℕ, ◌<◌}
use Rattle.program_maps.specs.Ways.{goes_to}
use Rattle.alike_order.specs.Order.{IsPairKept}
use Rattle.alike_order.proofs.order.is_class_kept.Given as goal

abbrev pub invariant-loop-above : goal.invariant-loop-above
invariant-loop-above l = (g : ℕ) → g < l.above → IsPairKept l.old l.new (goes_to l.types) l.class g

use Rattle.std.proofs.Common.{ℕ, ◌<◌}
use Rattle.program_maps.specs.Ways.{goes_to}
use Rattle.alike_order.specs.Order.{IsPairKept}
use Rattle.alike_order.proofs.order.are_classes_kept.Given as goal

abbrev pub invariant-loop-class : goal.invariant-loop-class
invariant-loop-class l = (k g : ℕ) → k < l.class → g < l.count → IsPairKept l.old l.new (goes_to l.types) k g

use Rattle.std.proofs.Common.{ℕ, ◌<◌}
use Rattle.alike_order.specs.Supers.{KeepsSupers}
use Rattle.alike_order.proofs.supers.keep_all_supers.Given as goal

abbrev pub invariant-loop-class : goal.invariant-loop-class
invariant-loop-class l = (k : ℕ) → k < l.class → KeepsSupers l.old l.new l.types k

use Rattle.std.proofs.Common.{◌≡◌, length}
use Rattle.overrides.specs.Orders.{AreThere}
use Rattle.overrides.proofs.order.put_all.Given as goal

abbrev pub invariant-loop-m : goal.invariant-loop-m
invariant-loop-m l = record {
  there : AreThere l.there.items l.methods.items;
  size : length l.there.items ≡ length l.fn.there.items;
}

use Rattle.std.proofs.Common.{◌≡◌, length}
use Rattle.overrides.specs.Orders.{AreThere}
use Rattle.overrides.proofs.order.put_types.Given as goal

abbrev pub invariant-loop-c : goal.invariant-loop-c
invariant-loop-c l = record {
  there : AreThere l.there.items l.methods.items;
  size : length l.there.items ≡ length l.fn.there.items;
}

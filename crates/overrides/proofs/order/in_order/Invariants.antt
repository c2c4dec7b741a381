use Rattle.std.proofs.Common.{◌≡◌, ℕ, ◌<◌, length}
use Rattle.std.specs.List.{Contains}
use Rattle.overrides.specs.Orders.{AreThere}
use Rattle.overrides.proofs.order.in_order.Given as goal

abbrev pub invariant-loop-m : goal.invariant-loop-m
invariant-loop-m l = record {
  there : AreThere l.there.items l.methods.items;
  size : length l.there.items ≡ l.count;
  all : (k : ℕ) → k < l.m → Contains l.methods.items k;
}

use Rattle.std.proofs.Common.{ℕ, ◌<◌, ◌↔◌}
use Rattle.std.specs.List.{Contains}
use Rattle.override_rules.proofs.order.all_methods.Given as goal

abbrev pub invariant-loop-m : goal.invariant-loop-m
invariant-loop-m l = (m : ℕ) → Contains l.methods.items m ↔ (m < l.m)

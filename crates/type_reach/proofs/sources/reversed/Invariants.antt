use Rattle.std.proofs.Common.{◌≡◌, ℕ, ◌<◌, [], length}
use Rattle.std.specs.Prelude.{◌↔◌, replicate}
use Rattle.type_reach.specs.Reach.{IsEdge}
use Rattle.type_reach.specs.Sources.{HasTarget}
use Rattle.type_reach.proofs.sources.reversed.Given as goal

abbrev pub invariant-loop : goal.invariant-loop
invariant-loop l = l.sources.items ≡ replicate l.counter []

abbrev pub invariant-loop-node : goal.invariant-loop-node
invariant-loop-node l = record {
  size : length l.sources.items ≡ length l.graph;
  added : (a b : ℕ) → HasTarget l.sources.items b a ↔ ((a < l.node) × IsEdge l.graph a b);
}

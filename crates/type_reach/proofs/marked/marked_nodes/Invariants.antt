use Rattle.std.proofs.Common.{◌≡◌, ℕ, ◌<◌, Some, true}
use Rattle.std.specs.Prelude.{slice_get, Contains, ◌↔◌}
use Rattle.type_reach.proofs.marked.marked_nodes.Given as goal

abbrev pub invariant-loop-node : goal.invariant-loop-node
invariant-loop-node l = (a : ℕ) → Contains l.nodes.items a ↔ ((a < l.node) × (slice_get l.marks a ≡ Some true))

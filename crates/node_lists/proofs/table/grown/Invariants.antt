use Rattle.std.proofs.Common.{◌≡◌, ℕ, ◌≤◌, length}
use Rattle.node_lists.specs.Table.{told}
use Rattle.node_lists.proofs.table.grown.Given as goal

abbrev pub invariant-loop : goal.invariant-loop
invariant-loop l = (l.counter ≤ length l.table) × ((k : ℕ) → told l.table k ≡ told l.fn.table k)

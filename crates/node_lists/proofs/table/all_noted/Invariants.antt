use Rattle.std.proofs.Common.{◌≡◌, ℕ, drop}
use Rattle.node_lists.specs.Table.{or_later, told, told_of}
use Rattle.node_lists.proofs.table.all_noted.Given as goal

abbrev pub invariant-loop-node : goal.invariant-loop-node
invariant-loop-node l = (k : ℕ) → or_later (told l.table k) (told_of l.file k (drop l.node-index l.nodes)) ≡ or_later (told l.fn.table k) (told_of l.file k l.nodes)

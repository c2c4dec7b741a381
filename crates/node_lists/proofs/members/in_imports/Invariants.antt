use Rattle.std.proofs.Common.{drop, ◌≡◌}
use Rattle.node_lists.specs.Nodes as spec
use Rattle.node_lists.proofs.members.in_imports.Given as goal

abbrev pub invariant-loop-x : goal.invariant-loop-x
invariant-loop-x l = spec.imports (drop l.x-index l.xs) l.nodes ≡ spec.imports l.xs l.fn.nodes

use Rattle.std.proofs.Common.{drop, ◌≡◌}
use Rattle.node_places.specs.Seek as seek
use Rattle.node_places.proofs.members.in_imports.Given as goal

abbrev pub invariant-loop-x : goal.invariant-loop-x
invariant-loop-x l = seek.imports l.number (drop l.x-index l.xs) ≡ seek.imports l.number l.xs

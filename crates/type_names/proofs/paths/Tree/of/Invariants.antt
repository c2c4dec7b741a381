use Rattle.std.proofs.Common.{take}
use Rattle.type_names.specs.Paths.{IsTree}
use Rattle.type_names.proofs.paths.Tree.of.Given as goal

abbrev pub invariant-loop-place : goal.invariant-loop-place
invariant-loop-place l = IsTree (take l.place l.paths) l.tree

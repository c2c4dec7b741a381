use Rattle.std.proofs.Common.{◌≡◌, ◌++◌, drop, map}
use Rattle.unchecked_ops.specs.Programs.{operation}
use Rattle.unchecked_ops.proofs.program.put_all.Given as goal

abbrev pub invariant-loop-node : goal.invariant-loop-node
invariant-loop-node l = l.out ++ map (operation l.file) (drop l.node-index l.nodes) ≡ l.fn.out ++ map (operation l.file) l.nodes

use Rattle.std.proofs.Common.{drop, ◌≡◌}
use Rattle.extract_constraints.specs.Arguments as ar
use Rattle.extract_constraints.proofs.arguments.put_in_params.Given as goal

abbrev pub invariant-loop-t : goal.invariant-loop-t
invariant-loop-t l = ar.put_in_params l.seen l.node (drop l.t-index l.types) l.links ≡ ar.put_in_params l.seen l.node l.types l.fn.links

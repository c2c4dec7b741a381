use Rattle.std.proofs.Common.{◌≡◌, drop, length}
use Rattle.extract_constraints.specs.Flows as fl
use Rattle.extract_constraints.proofs.flows.all_equal.Given as goal

abbrev pub invariant-loop-x : goal.invariant-loop-x
invariant-loop-x l = fl.all_equal (drop (length l.yielded) l.xs) (drop (length l.yielded) l.ys) l.node l.links ≡ fl.all_equal l.xs l.ys l.node l.fn.links

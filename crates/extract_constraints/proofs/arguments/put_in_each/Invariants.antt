use Rattle.std.proofs.Common.{drop, ◌≡◌}
use Rattle.extract_constraints.proofs.Each.{Each}
use Rattle.extract_constraints.specs.Arguments.{call_of}
use Rattle.extract_constraints.specs.Arguments as ar
use Rattle.extract_constraints.proofs.arguments.put_in_each.Given as goal

abbrev pub invariant-loop-m : goal.invariant-loop-m
invariant-loop-m l = Each l.at (λ k a. ar.put_in_each k a (call_of l.call) (drop l.m-index l.methods) l.links ≡ ar.put_in_each k a (call_of l.call) l.methods l.fn.links)

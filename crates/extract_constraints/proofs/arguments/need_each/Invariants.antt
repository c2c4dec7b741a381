use Rattle.std.proofs.Common.{drop, ◌≡◌}
use Rattle.extract_constraints.proofs.Each.{Each}
use Rattle.extract_constraints.specs.Arguments.{call_of}
use Rattle.extract_constraints.specs.Arguments as ar
use Rattle.extract_constraints.proofs.arguments.need_each.Given as goal

abbrev pub invariant-loop-place : goal.invariant-loop-place
invariant-loop-place l = Each l.at (λ k a. ar.need_each k a (call_of l.call) l.old l.s l.index l.node (drop l.place-index l.places) l.links ≡ ar.need_each k a (call_of l.call) l.old l.s l.index l.node l.places l.fn.links)

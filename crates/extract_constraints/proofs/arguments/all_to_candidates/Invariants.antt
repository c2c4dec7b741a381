use Rattle.std.proofs.Common.{drop, ◌≡◌}
use Rattle.java_core.specs.View.{plains}
use Rattle.extract_constraints.proofs.Each.{Each}
use Rattle.extract_constraints.specs.Arguments.{call_of}
use Rattle.extract_constraints.specs.Arguments as ar
use Rattle.extract_constraints.proofs.arguments.all_to_candidates.Given as goal

abbrev pub invariant-loop-index : goal.invariant-loop-index
invariant-loop-index l = Each l.at (λ k a. ar.all_to_candidates k a l.locals (call_of l.call) l.index (plains (drop l.index l.xs)) l.links ≡ ar.all_to_candidates k a l.locals (call_of l.call) 0 (plains l.xs) l.fn.links)

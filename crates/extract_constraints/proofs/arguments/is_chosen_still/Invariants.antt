use Rattle.std.proofs.Common.{drop, ◌≡◌}
use Rattle.extract_constraints.proofs.Each.{Each}
use Rattle.extract_constraints.specs.Arguments.{call_of}
use Rattle.extract_constraints.specs.Arguments as ar
use Rattle.extract_constraints.proofs.arguments.is_chosen_still.Given as goal

abbrev pub invariant-loop-m : goal.invariant-loop-m
invariant-loop-m l = Each l.at (λ k a. ar.is_chosen_still k a (call_of l.call) l.old l.s l.place l.index (drop l.m-index l.methods) ≡ ar.is_chosen_still k a (call_of l.call) l.old l.s l.place l.index l.methods)

use Rattle.std.proofs.Common.{drop, ◌≡◌}
use Rattle.java_core.specs.View.{plains}
use Rattle.extract_constraints.specs.Arguments as ar
use Rattle.extract_constraints.proofs.arguments.some_mention.Given as goal

abbrev pub invariant-loop-x : goal.invariant-loop-x
invariant-loop-x l = ar.some_mention l.class (plains (drop l.x-index l.xs)) ≡ ar.some_mention l.class (plains l.xs)

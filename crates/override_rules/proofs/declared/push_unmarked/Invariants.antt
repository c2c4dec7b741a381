use Rattle.override_rules.specs.Judged.{Pushes}
use Rattle.override_rules.proofs.Listed.{IsBefore}
use Rattle.override_rules.proofs.declared.push_unmarked.Given as goal

abbrev pub invariant-loop-k : goal.invariant-loop-k
invariant-loop-k l = Pushes (IsBefore l.methods l.k-index) l.stamp l.fn.marks l.marks l.fn.stack.items l.stack.items

use Rattle.class_world.specs.Merged.{FinishedBefore}
use Rattle.class_world.proofs.sequence.first_unfinished.Given as goal

abbrev pub invariant-loop-at : goal.invariant-loop-at
invariant-loop-at l = FinishedBefore l.finished l.supers l.at

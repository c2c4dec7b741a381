use Rattle.method_ties.specs.Sides.{AreAll, IsOnce}
use Rattle.method_ties.specs.Ties.{AreMeetings}
use Rattle.method_ties.proofs.meet.all_meetings.Given as goal

abbrev pub invariant-loop-c : goal.invariant-loop-c
invariant-loop-c l = AreAll (λ c ps. AreMeetings l.w c ps × IsOnce ps) l.all.items l.c

use Rattle.member_methods.specs.Made.{IsMaking}
use Rattle.member_methods.proofs.Whole.{AreDone, AreDoneBelow}
use Rattle.member_methods.proofs.made.all_made.Given as goal

abbrev pub invariant-loop-c : goal.invariant-loop-c
invariant-loop-c l = record {
  making : IsMaking l.w l.keyed l.limit l.made;
  done : AreDone l.w l.keyed l.made l.c-items l.c-index;
}

abbrev pub invariant-loop-past : goal.invariant-loop-past
invariant-loop-past l = record {
  making : IsMaking l.w l.keyed l.limit l.made;
  done : AreDoneBelow l.w l.keyed l.made l.past;
}

use Rattle.counted_methods.proofs.Superclasses.{TellsFirst}
use Rattle.counted_methods.proofs.superclass.superclass.Given as goal

abbrev pub invariant-loop-d : goal.invariant-loop-d
invariant-loop-d l = TellsFirst l.w l.d-items l.d-index l.found

use Rattle.method_ties.specs.Sides.{AreAll}
use Rattle.found_methods.proofs.Ranks.{HasSuperclasses}
use Rattle.found_methods.proofs.supers.superclasses.Given as goal

abbrev pub invariant-loop-info : goal.invariant-loop-info
invariant-loop-info l = AreAll (HasSuperclasses l.w) l.all.items l.info-index

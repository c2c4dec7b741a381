use Rattle.extract_interface.specs.Asked.{TakesName}
use Rattle.extract_interface.proofs.Firsts.{AreNone}
use Rattle.extract_interface.proofs.taken.is_of_type.Given as goal

abbrev pub invariant-loop-info : goal.invariant-loop-info
invariant-loop-info l = AreNone (TakesName l.names l.word) l.types l.info-index

use Rattle.extract_interface.proofs.Classes.{IsNamedClass}
use Rattle.extract_interface.proofs.Firsts.{AreNone}
use Rattle.extract_interface.proofs.asked.class_named.Given as goal

abbrev pub invariant-loop-at : goal.invariant-loop-at
invariant-loop-at l = AreNone (IsNamedClass l.names l.word) l.w.types l.at

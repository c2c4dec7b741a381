use Rattle.java_tree.specs.declared.tree.SourceUnit.{SourceUnit}
use Rattle.extract_interface.specs.Asked.{IsFirst}
use Rattle.extract_interface.proofs.Firsts.{AreNone}
use Rattle.extract_interface.proofs.taken.is_of_file.Given as goal

abbrev pub invariant-loop-unit : goal.invariant-loop-unit
invariant-loop-unit l = AreNone (λ (u : SourceUnit). IsFirst l.names l.word u.«package») l.units l.unit-index

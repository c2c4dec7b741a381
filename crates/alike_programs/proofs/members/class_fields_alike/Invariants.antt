use Rattle.alike_trees.specs.Compared.{pair}
use Rattle.alike_programs.specs.Alike.{AreFieldsBelow}
use Rattle.alike_programs.proofs.members.class_fields_alike.Given as goal

abbrev pub invariant-loop-class : goal.invariant-loop-class
invariant-loop-class l = AreFieldsBelow (pair l.sides) l.old l.new l.class

use Rattle.alike_trees.specs.Compared.{pair}
use Rattle.alike_programs.specs.Alike.{AreBodiesBelow}
use Rattle.alike_programs.proofs.members.bodies_alike.Given as goal

abbrev pub invariant-loop-method : goal.invariant-loop-method
invariant-loop-method l = AreBodiesBelow (pair l.sides) l.old l.new l.method

use Rattle.std.proofs.Common.{drop, map}
use Rattle.java_core.specs.View.{var_plain}
use Rattle.program_maps.specs.Trees.{VarAlike, VarsAlike}
use Rattle.alike_trees.specs.Compared.{pair}
use Rattle.alike_trees.proofs.Walks.{SoFar}
use Rattle.alike_trees.proofs.simple.vars_alike.Given as goal

abbrev pub invariant-loop-at : goal.invariant-loop-at
invariant-loop-at l = SoFar (λ xs ys. VarsAlike (pair l.sides) (map var_plain xs) (map var_plain ys)) l.at l.old l.new

use Rattle.std.proofs.Common.{map}
use Rattle.java_core.specs.View.{field_plain}
use Rattle.program_maps.specs.Trees.{FieldsAlike}
use Rattle.alike_trees.specs.Compared.{pair}
use Rattle.alike_trees.proofs.Walks.{SoFar}
use Rattle.alike_trees.proofs.bodies.fields_alike.Given as goal

abbrev pub invariant-loop-at : goal.invariant-loop-at
invariant-loop-at l = SoFar (λ xs ys. FieldsAlike (pair l.sides) (map (λ x. field_plain x.now) xs) (map (λ y. field_plain y.now) ys)) l.at l.old l.new

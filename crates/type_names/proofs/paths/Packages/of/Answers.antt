use Rattle.std.proofs.Common.{subst}
use Rattle.type_names.specs.Paths.{IsTree}
use Rattle.type_names.proofs.paths.Packages.of.Goals as goal

pub invariant_of-result : goal.invariant_of-result
invariant_of-result c = subst (λ ps. IsTree ps c.in_ok-tree.tree) c.as_slice.ensures c.in_ok-tree.ensures

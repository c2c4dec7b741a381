use Rattle.method_choice.specs.Choice.{pairwise}
use Rattle.class_places.proofs.Steps.{pair}
use Rattle.marked_types.proofs.Forms.{ok_as}
use Rattle.extract_constraints.specs.Groups as spec
use Rattle.extract_constraints.proofs.groups.have_one_erasure.Goals as goal

pub returns : goal.returns
returns c =
    λ k told.
    ok_as c.all_erase_alike.result _ _
    (pair (pairwise (spec.erase_alike k)) _ _ _ _ c.as_slice.ensures c.as_slice-2.ensures)
    (c.all_erase_alike.ensures k told)

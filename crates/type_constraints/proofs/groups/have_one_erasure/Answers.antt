use Rattle.class_world.specs.Types.{erased}
use Rattle.method_choice.specs.Choice.{pairwise}
use Rattle.thrown_exceptions.proofs.Steps.{ok_as, pair}
use Rattle.type_constraints.specs.Changed as ch
use Rattle.type_constraints.proofs.groups.have_one_erasure.Goals as goal

pub returns : goal.returns
returns c =
    λ f are ts ties.
    ok_as c.all_erase_alike.result _ _
    (pair (pairwise (λ s t. ch.is_alike f (erased s) (erased t))) _ _ _ _ c.as_slice.ensures c.as_slice-2.ensures)
    (c.all_erase_alike.ensures f are ts ties)

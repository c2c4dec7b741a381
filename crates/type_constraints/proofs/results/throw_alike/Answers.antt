use Rattle.std.proofs.Common.{ap, ◌∙◌}
use Rattle.thrown_exceptions.specs.Thrown as thrown
use Rattle.thrown_exceptions.proofs.Steps.{pair}
use Rattle.type_constraints.specs.Uses as us
use Rattle.type_constraints.proofs.results.throw_alike.Goals as goal

pub returns : goal.returns
returns c =
    λ f are ts ties.
    c.are_same.ensures
    ∙ pair us.are_same _ _ _ _ (c.as_slice-3.ensures ∙ c.in_ok-new.ensures f are ts ties ∙ ap (thrown.checked_in f.sub) c.as_slice.ensures) (c.as_slice-4.ensures ∙ c.in_ok-old.ensures f are ts ties ∙ ap (thrown.checked_in f.sub) c.as_slice-2.ensures)

use Rattle.std.proofs.Common.{◌∙◌}
use Rattle.thrown_exceptions.proofs.Steps.{pair}
use Rattle.type_constraints.specs.Changed as ch
use Rattle.type_constraints.proofs.results.give_erased_alike.Goals as goal

pub returns : goal.returns
returns c =
    λ f are ts ties.
    c.are_alike.ensures f are ts ties ∙ pair (ch.are_alike f) _ _ _ _ (c.in_ok-new.ensures f are ts ties) (c.in_ok-old.ensures f are ts ties)

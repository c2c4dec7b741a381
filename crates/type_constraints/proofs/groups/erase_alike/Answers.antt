use Rattle.std.proofs.Common.{◌∙◌}
use Rattle.thrown_exceptions.proofs.Steps.{pair}
use Rattle.type_constraints.specs.Changed as ch
use Rattle.type_constraints.proofs.groups.erase_alike.Goals as goal

pub returns : goal.returns
returns c =
    λ f are ts ties.
    c.is_alike.ensures f are ts ties ∙ pair (ch.is_alike f) _ _ _ _ c.in_ok-s.ensures c.in_ok-t.ensures

use Rattle.std.proofs.Common.{sym, ◌∙◌}
use Rattle.thrown_exceptions.proofs.Steps.{pair}
use Rattle.type_constraints.specs.Changed as ch
use Rattle.type_constraints.proofs.flows.are_alike.Goals as goal

pub returns-in-Some-t : goal.returns-in-Some-t
returns-in-Some-t c =
    λ f are ts ties.
    c.is_alike.ensures f are ts ties ∙ sym (pair (ch.are_alike f) _ _ _ _ c.in-Some.is c.in-Some-t.is)

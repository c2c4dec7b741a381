use Rattle.std.proofs.Common.{ap, ◌∙◌}
use Rattle.thrown_exceptions.proofs.Steps.{pair}
use Rattle.type_constraints.specs.Changed as ch
use Rattle.type_constraints.proofs.flows.is_same_iterable.Goals as goal

pub returns : goal.returns
returns c =
    λ f are ts ties.
    c.are_alike.ensures f are ts ties
    ∙ pair (ch.are_alike f) _ _ _ _ (c.in_ok-above_new.ensures f are ts ties ∙ ap (λ n. f.super_as n c.args.walk.now.iterable) c.in_ok-new.ensures) (c.in_ok-above_old.ensures f are ts ties)

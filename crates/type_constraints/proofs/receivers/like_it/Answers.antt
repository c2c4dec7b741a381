use Rattle.std.proofs.Common.{◌∙◌}
use Rattle.member_uses.specs.Targets.{named_in}
use Rattle.thrown_exceptions.proofs.Steps.{pair}
use Rattle.type_constraints.proofs.receivers.like_it.Goals as goal

pub returns : goal.returns
returns c =
    λ f are ts ties.
    c.named_in.ensures f are ts ties ∙ pair (λ k n. named_in f k c.args.info.now.name n) _ _ _ _ c.class_number.ensures c.len.ensures

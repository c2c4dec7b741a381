use Rattle.std.proofs.Common.{sym, ap, ◌∙◌}
use Rattle.member_uses.specs.Targets.{named_in}
use Rattle.type_constraints.proofs.receivers.named_in.Goals as goal

pub returns-in-Some : goal.returns-in-Some
returns-in-Some c =
    λ f are ts ties.
    c.methods_named.ensures f are ts ties ∙ sym (ap (λ k. named_in f k c.args.name c.args.arity) c.in-Some.is)

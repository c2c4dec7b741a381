use Rattle.std.proofs.Common.{ap, sym, ◌∙◌}
use Rattle.member_uses.specs.Targets as tg
use Rattle.extract_constraints.proofs.declarations.named_in.Goals as goal

pub returns-in-Some : goal.returns-in-Some
returns-in-Some c =
    λ k told.
    c.methods_named.ensures k told ∙ sym (ap (λ o. tg.named_in k.facts o c.args.name c.args.arity) c.in-Some.is)

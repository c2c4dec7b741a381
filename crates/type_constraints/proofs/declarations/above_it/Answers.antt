use Rattle.std.proofs.Common.{sym, ap, ◌∙◌}
use Rattle.member_uses.specs.Targets.{named_in}
use Rattle.thrown_exceptions.proofs.Steps.{pair}
use Rattle.type_constraints.specs.Asked.{asked}
use Rattle.type_constraints.specs.Declarations as de
use Rattle.type_constraints.proofs.declarations.above_it.Goals as goal

pub returns-then-is_static_method : goal.returns-then-is_static_method
returns-then-is_static_method c =
    λ f are ts ties.
    let a = asked c.args.at.now f ts in
    c.named_in.ensures f are ts ties ∙ pair (λ k n. named_in f k c.args.info.now.name n) _ _ _ _ (c.in_ok-class.ensures f are ts ties) c.len.ensures ∙ ap (de.above_it a c.args.info.now) (sym c.if-is_static_method.true ∙ c.is_static_method.ensures)

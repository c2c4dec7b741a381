use Rattle.std.proofs.Common.{sym, ap, ◌∙◌}
use Rattle.std.specs.Prelude.{◌&&◌}
use Rattle.thrown_exceptions.proofs.Steps.{ok_as}
use Rattle.type_constraints.specs.Arguments as ar
use Rattle.type_constraints.proofs.declarations.is_hidden_method.Goals as goal

pub returns-then-is_static_method : goal.returns-then-is_static_method
returns-then-is_static_method c =
    λ f are ts ties.
    ok_as c.have_one_erasure.result _ _
    (ap (λ b. b && ar.have_one_erasure f c.args.info.now c.args.other.now) (sym c.if-is_static_method.true ∙ c.is_static_method.ensures))
    (c.have_one_erasure.ensures f are ts ties)

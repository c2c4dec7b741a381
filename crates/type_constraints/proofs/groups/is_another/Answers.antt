use Rattle.std.proofs.Common.{sym, ap, ◌∙◌}
use Rattle.std.specs.Prelude.{◌&&◌, not}
use Rattle.type_kinds.specs.Members.{method_at}
use Rattle.thrown_exceptions.proofs.Steps.{ok_as}
use Rattle.type_constraints.specs.Arguments as ar
use Rattle.type_constraints.proofs.groups.is_another.Goals as goal

pub returns-then-are_tied : goal.returns-then-are_tied
returns-then-are_tied c =
    λ f are ts ties.
    ap (λ b. not b && ar.differ f c.args.info.now (method_at c.args.at.now.q.world.now c.args.k)) (sym c.if-are_tied.true ∙ c.are_tied.ensures f are ts ties)

pub returns : goal.returns
returns c =
    λ f are ts ties.
    ok_as c.differ.result _ _
    (ap (λ b. not b && ar.differ f c.args.info.now (method_at c.args.at.now.q.world.now c.args.k)) (sym c.if-are_tied.false ∙ c.are_tied.ensures f are ts ties))
    (c.differ.ensures f are ts ties)

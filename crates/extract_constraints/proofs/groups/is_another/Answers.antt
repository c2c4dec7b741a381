use Rattle.std.proofs.Common.{sym, ap, ◌∙◌}
use Rattle.std.specs.Prelude.{◌&&◌, not}
use Rattle.type_kinds.specs.Members.{method_at}
use Rattle.marked_types.proofs.Forms.{ok_as}
use Rattle.extract_constraints.specs.Groups as spec
use Rattle.extract_constraints.proofs.groups.is_another.Goals as goal

pub returns-then-are_tied : goal.returns-then-are_tied
returns-then-are_tied c =
    λ k told.
    ap (λ b. not b && spec.differ k c.args.info.now (method_at c.args.at.now.reader.q.world.now c.args.j)) (sym c.if-are_tied.true ∙ c.are_tied.ensures k told)

pub returns : goal.returns
returns c =
    λ k told.
    ok_as c.differ.result _ _
    (ap (λ b. not b && spec.differ k c.args.info.now (method_at c.args.at.now.reader.q.world.now c.args.j)) (sym c.if-are_tied.false ∙ c.are_tied.ensures k told))
    (c.differ.ensures k told)

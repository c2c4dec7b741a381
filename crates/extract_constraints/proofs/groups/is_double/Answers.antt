use Rattle.std.proofs.Common.{sym, ap, ◌∙◌}
use Rattle.std.specs.Prelude.{◌&&◌, not}
use Rattle.type_kinds.specs.Members.{method_at}
use Rattle.marked_types.proofs.Forms.{ok_as}
use Rattle.extract_constraints.specs.Groups as spec
use Rattle.extract_constraints.proofs.groups.is_double.Goals as goal

pub returns-then-are_tied : goal.returns-then-are_tied
returns-then-are_tied c =
    λ k told.
    ap (λ b. not b && (not (spec.is_among (k.ties.family c.args.m) c.args.j) && spec.have_one_erasure_with k c.args.info.now (method_at c.args.at.now.reader.q.world.now c.args.j))) (sym c.if-are_tied.true ∙ c.are_tied.ensures k told)

pub returns-then-is_of_family : goal.returns-then-is_of_family
returns-then-is_of_family c =
    λ k told.
    ap (λ b. not b && spec.have_one_erasure_with k c.args.info.now (method_at c.args.at.now.reader.q.world.now c.args.j)) (sym c.if-is_of_family.true ∙ c.is_of_family.ensures k told)
    ∙ ap (λ b. not b && (not (spec.is_among (k.ties.family c.args.m) c.args.j) && spec.have_one_erasure_with k c.args.info.now (method_at c.args.at.now.reader.q.world.now c.args.j))) (sym c.if-are_tied.false ∙ c.are_tied.ensures k told)

pub returns : goal.returns
returns c =
    λ k told.
    ok_as c.have_one_erasure_with.result _ _
    (ap (λ b. not b && spec.have_one_erasure_with k c.args.info.now (method_at c.args.at.now.reader.q.world.now c.args.j)) (sym c.if-is_of_family.false ∙ c.is_of_family.ensures k told)
    ∙ ap (λ b. not b && (not (spec.is_among (k.ties.family c.args.m) c.args.j) && spec.have_one_erasure_with k c.args.info.now (method_at c.args.at.now.reader.q.world.now c.args.j))) (sym c.if-are_tied.false ∙ c.are_tied.ensures k told))
    (c.have_one_erasure_with.ensures k told)

use Rattle.std.proofs.Common.{ap, sym, ◌∙◌}
use Rattle.std.specs.Prelude.{◌&&◌}
use Rattle.marked_types.proofs.Forms.{ok_as}
use Rattle.extract_constraints.specs.Groups as gr
use Rattle.extract_constraints.proofs.declarations.hides_info.Goals as goal

pub returns-then-is_static : goal.returns-then-is_static
returns-then-is_static c =
    λ k told.
    ok_as c.have_one_erasure.result _ _
    (ap (λ b. b && gr.have_one_erasure k c.args.info.now c.args.other.now) (sym c.if-is_static.true ∙ c.is_static.ensures))
    (c.have_one_erasure.ensures k told)

pub returns : goal.returns
returns c =
    λ k told.
    ap (λ b. b && gr.have_one_erasure k c.args.info.now c.args.other.now) (sym c.if-is_static.false ∙ c.is_static.ensures)

use Rattle.std.proofs.Common.{ap, sym, ◌∙◌}
use Rattle.class_places.proofs.Steps.{pair}
use Rattle.extract_constraints.specs.Flows as fl
use Rattle.marked_types.proofs.Forms.{ok_as}
use Rattle.extract_constraints.proofs.flows.lone_arm.Goals as goal

pub returns-then-branch : goal.returns-then-branch
returns-then-branch c =
    λ k told.
    ap (λ b. fl.beside b (k.facts.fits c.args.t.now c.args.s.now) c.args.place c.args.inner c.args.node c.args.links) (sym c.if-branch.true ∙ c.in_ok-new_fits.ensures k told)

pub returns-then-fits : goal.returns-then-fits
returns-then-fits c =
    λ k told.
    ok_as c.to_inner.result _ _
    (pair (λ b d. fl.beside b d c.args.place c.args.inner c.args.node c.args.links) _ _ _ _ (sym c.if-branch.false ∙ c.in_ok-new_fits.ensures k told) (sym c.if-fits.true ∙ c.fits.ensures k told))
    c.to_inner.ensures

pub returns : goal.returns
returns c =
    λ k told.
    ok_as c.need.result _ _
    (pair (λ b d. fl.beside b d c.args.place c.args.inner c.args.node c.args.links) _ _ _ _ (sym c.if-branch.false ∙ c.in_ok-new_fits.ensures k told) (sym c.if-fits.false ∙ c.fits.ensures k told))
    c.need.ensures

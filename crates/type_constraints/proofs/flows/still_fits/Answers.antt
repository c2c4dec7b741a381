use Rattle.std.proofs.Common.{sym, ap, ◌∙◌}
use Rattle.std.specs.Prelude.{◌||◌, not}
use Rattle.java_core.specs.View.{plain}
use Rattle.type_places.specs.Changes.{raised}
use Rattle.thrown_exceptions.proofs.Forms.{ty_at}
use Rattle.thrown_exceptions.proofs.Steps.{ok_as}
use Rattle.type_constraints.specs.Asked.{asked}
use Rattle.type_constraints.specs.Changed as ch
use Rattle.type_constraints.proofs.flows.still_fits.Goals as goal

pub returns-then-branch : goal.returns-then-branch
returns-then-branch c =
    λ f are ts ties.
    let a = asked c.args.at.now f ts in
    ok_as c.new_fits.result _ _
    (ap (λ u. f.fits (raised c.args.at.now.change.now u) c.args.t.now) (ty_at c.args.x.now) ∙ ap (λ b. not b || ch.fits_after a (plain c.args.x.now) c.args.t.now) (sym c.if-branch.true ∙ c.in_ok-changed.ensures f are ts ties))
    (c.new_fits.ensures f are ts ties)

pub returns : goal.returns
returns c =
    λ f are ts ties.
    let a = asked c.args.at.now f ts in
    ap (λ b. not b || ch.fits_after a (plain c.args.x.now) c.args.t.now) (sym c.if-branch.false ∙ c.in_ok-changed.ensures f are ts ties)

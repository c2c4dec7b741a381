use Rattle.std.proofs.Common.{sym, ap, ◌∙◌}
use Rattle.std.specs.Prelude.{◌||◌}
use Rattle.type_places.specs.Changes.{raised}
use Rattle.thrown_exceptions.proofs.Steps.{ok_as}
use Rattle.type_constraints.proofs.flows.item_fits.Goals as goal

pub returns : goal.returns
returns c =
    λ f are ts ties.
    ok_as c.new_fits.result _ _
    (ap (λ b. b || f.fits (raised c.args.at.now.change.now c.args.item.now) c.args.var.now.ty) (sym c.if-is_local.false ∙ c.is_local.ensures))
    (c.new_fits.ensures f are ts ties)

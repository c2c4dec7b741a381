use Rattle.std.proofs.Common.{ap, ◌∙◌}
use Rattle.type_places.specs.Changes.{raised}
use Rattle.thrown_exceptions.proofs.Forms.{ty_at}
use Rattle.thrown_exceptions.proofs.Steps.{pair}
use Rattle.type_constraints.specs.Arguments as ar
use Rattle.type_constraints.proofs.arguments.type_takes_alike.Goals as goal

pub returns : goal.returns
returns c =
    λ f are ts ties.
    c.is_same.ensures
    ∙ pair ar.is_same _ _ _ _ (c.fits.ensures f are ts ties ∙ ap (λ u. f.fits u c.args.t.now) (ty_at c.args.x.now)) (c.in_ok-new.ensures f are ts ties ∙ ap (λ u. f.fits (raised c.args.at.now.change.now u) c.args.t.now) (ty_at c.args.x.now))

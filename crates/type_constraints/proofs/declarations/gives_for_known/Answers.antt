use Rattle.std.proofs.Common.{◌∙◌}
use Rattle.thrown_exceptions.proofs.Steps.{pair}
use Rattle.type_constraints.specs.Asked.{asked}
use Rattle.type_constraints.specs.Declarations as de
use Rattle.type_constraints.proofs.declarations.gives_for_known.Goals as goal

pub returns : goal.returns
returns c =
    λ f are ts ties.
    let a = asked c.args.at.now f ts in
    c.fits_result.ensures f are ts ties ∙ pair (de.fits_result a) _ _ _ _ (c.in_ok-below.ensures f are ts ties) (c.in_ok-above.ensures f are ts ties)

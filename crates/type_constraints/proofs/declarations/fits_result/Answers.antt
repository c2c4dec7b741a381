use Rattle.std.proofs.Common.{sym, ◌∙◌}
use Rattle.thrown_exceptions.proofs.Steps.{pair}
use Rattle.type_constraints.specs.Asked.{asked}
use Rattle.type_constraints.specs.Declarations as de
use Rattle.type_constraints.proofs.declarations.fits_result.Goals as goal

pub returns-in-Some-t : goal.returns-in-Some-t
returns-in-Some-t c =
    λ f are ts ties.
    let a = asked c.args.at.now f ts in
    c.fits.ensures f are ts ties ∙ sym (pair (de.fits_result a) _ _ _ _ c.in-Some.is c.in-Some-t.is)

use Rattle.std.proofs.Common.{ap}
use Rattle.marked_types.proofs.Forms.{ok_as}
use Rattle.extract_constraints.specs.Declarations as de
use Rattle.extract_constraints.proofs.declarations.hides.Goals as goal

pub returns-in-None : goal.returns-in-None
returns-in-None c =
    λ k told.
    ap (de.hides_info k c.args.info.now) c.in-None.ensures

pub returns-in-Some : goal.returns-in-Some
returns-in-Some c =
    λ k told.
    ok_as c.hides_info.result _ _
    (ap (de.hides_info k c.args.info.now) c.in-Some.ensures)
    (c.hides_info.ensures k told)

use Rattle.std.proofs.Common.{ap}
use Rattle.extract_constraints.specs.Told.{where_of}
use Rattle.marked_types.proofs.Forms.{ok_as}
use Rattle.extract_constraints.specs.Declarations as de
use Rattle.extract_constraints.proofs.declarations.result.Goals as goal

pub returns-in-None : goal.returns-in-None
returns-in-None c =
    λ k told.
    let a = where_of c.args.at.now in
    ap (λ o. de.result o k a c.args.m c.args.hidden.now c.args.node c.args.links) c.in-None.ensures

pub returns-in-Some : goal.returns-in-Some
returns-in-Some c =
    λ k told.
    let a = where_of c.args.at.now in
    ok_as c.result_with.result _ _
    (ap (λ o. de.result o k a c.args.m c.args.hidden.now c.args.node c.args.links) c.in-Some.ensures)
    (c.result_with.ensures k told)

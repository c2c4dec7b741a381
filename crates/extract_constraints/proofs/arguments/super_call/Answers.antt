use Rattle.std.proofs.Common.{ap, false}
use Rattle.extract_constraints.specs.Told.{where_of}
use Rattle.java_core.specs.View.{plains}
use Rattle.marked_types.proofs.Forms.{ok_as}
use Rattle.extract_constraints.specs.Arguments as ar
use Rattle.extract_constraints.proofs.arguments.super_call.Goals as goal

pub returns : goal.returns
returns c =
    λ k told.
    let a = where_of c.args.at.now in
    ok_as c.call.result _ _
    (ap (λ o. ar.call k a c.args.locals.now c.args.node o o false c.args.method (plains c.args.xs.now) c.args.links) (c.in_ok-above.ensures k told))
    (c.call.ensures k told)

use Rattle.std.proofs.Common.{false, ap}
use Rattle.java_core.specs.View.{plains}
use Rattle.extract_constraints.specs.Arguments as calls
use Rattle.extract_constraints.specs.Told.{where_of}
use Rattle.marked_types.proofs.Forms.{ok_as}
use Rattle.extract_constraints.proofs.exprs.created.Goals as goal

pub returns : goal.returns
returns c =
    λ k told.
    let e = c.args.e.now in
    ok_as c.call.result _ _
    (ap (λ t. calls.call k (where_of c.args.at.now) c.args.locals.now e.node.id t e.ty false c.args.constructor (plains c.args.args.now) c.args.links) c.in_ok-marked.ensures)
    (c.call.ensures k told)

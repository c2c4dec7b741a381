use Rattle.std.proofs.Common.{ap}
use Rattle.extract_constraints.specs.Told.{where_of}
use Rattle.java_core.specs.View.{plains}
use Rattle.marked_types.proofs.Forms.{ok_as}
use Rattle.extract_constraints.specs.Arguments as ar
use Rattle.extract_constraints.proofs.arguments.call.Goals as goal

pub returns-in-None : goal.returns-in-None
returns-in-None c =
    λ k told.
    let a = where_of c.args.at.now in
    ap (λ o. ar.call_with k a c.args.locals.now c.args.node c.args.marked.now c.args.ty.now c.args.free c.args.method o (plains c.args.xs.now) c.args.links) c.in-None.ensures

pub returns-in-Some : goal.returns-in-Some
returns-in-Some c =
    λ k told.
    let a = where_of c.args.at.now in
    ok_as c.arguments.result _ _
    (ap (λ o. ar.call_with k a c.args.locals.now c.args.node c.args.marked.now c.args.ty.now c.args.free c.args.method o (plains c.args.xs.now) c.args.links) c.in-Some.ensures)
    (c.arguments.ensures k told)

use Rattle.std.proofs.Common.{ap, sym}
use Rattle.extract_constraints.specs.Told.{where_of}
use Rattle.java_core.specs.View.{plains}
use Rattle.marked_types.proofs.Forms.{ok_as}
use Rattle.extract_constraints.specs.Arguments as ar
use Rattle.extract_constraints.proofs.arguments.named_call.Goals as goal

pub returns-in-Nothing : goal.returns-in-Nothing
returns-in-Nothing c =
    λ k told.
    let a = where_of c.args.at.now in
    ok_as c.own_call.result _ _
    (sym (ap (λ b. ar.named_call k a c.args.locals.now c.args.node b c.args.method (plains c.args.xs.now) c.args.links) c.in-Nothing.is))
    (c.own_call.ensures k told)

pub returns-in-Super : goal.returns-in-Super
returns-in-Super c =
    λ k told.
    let a = where_of c.args.at.now in
    ok_as c.super_call.result _ _
    (sym (ap (λ b. ar.named_call k a c.args.locals.now c.args.node b c.args.method (plains c.args.xs.now) c.args.links) c.in-Super.is))
    (c.super_call.ensures k told)

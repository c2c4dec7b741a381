use Rattle.std.proofs.Common.{ap, false, sym, ◌∙◌}
use Rattle.extract_constraints.specs.Told.{where_of}
use Rattle.java_core.specs.View.{maybe, plain, plains}
use Rattle.std.specs.Option.{option_map}
use Rattle.marked_types.proofs.Forms.{ok_as}
use Rattle.extract_constraints.specs.Arguments as ar
use Rattle.extract_constraints.proofs.arguments.static_call.Goals as goal

pub returns-in-None : goal.returns-in-None
returns-in-None c =
    λ k told.
    let a = where_of c.args.at.now in
    ok_as c.named_call.result _ _
    (sym (ap (λ o. ar.static_call k a c.args.locals.now c.args.node c.args.before (maybe (option_map plain o)) c.args.method (plains c.args.xs.now) c.args.links) c.in-None.is))
    (c.named_call.ensures k told)

pub returns-in-Some : goal.returns-in-Some
returns-in-Some c =
    λ k told.
    let a = where_of c.args.at.now in
    ok_as c.value_call.result _ _
    (ap (λ x. ar.value_call k a c.args.locals.now c.args.node (plain x) false c.args.method (plains c.args.xs.now) c.args.links) c.get.ensures ∙ sym (ap (λ o. ar.static_call k a c.args.locals.now c.args.node c.args.before (maybe (option_map plain o)) c.args.method (plains c.args.xs.now) c.args.links) c.in-Some.is))
    (c.value_call.ensures k told)

use Rattle.std.proofs.Common.{ap, ◌∙◌}
use Rattle.extract_constraints.specs.Told.{where_of}
use Rattle.java_core.specs.View.{plain}
use Rattle.marked_types.proofs.Forms.{ok_as}
use Rattle.extract_constraints.specs.Arguments.{call_of}
use Rattle.extract_constraints.specs.Flows as fl
use Rattle.extract_constraints.proofs.arguments.to_param.Goals as goal

pub returns : goal.returns
returns c =
    λ k told.
    let a = where_of c.args.at.now in
    let call = call_of c.args.call.now in
    ok_as c.value_to_maybe.result _ _
    (ap (λ o. fl.value_to_maybe k a c.args.locals.now (plain c.args.x.now) o c.args.links) (c.as_ref.ensures.value ∙ c.in_ok-t.ensures k told))
    (c.value_to_maybe.ensures k told)

use Rattle.std.proofs.Common.{ap, sym}
use Rattle.extract_constraints.specs.Flows as fl
use Rattle.marked_types.proofs.Forms.{ok_as}
use Rattle.extract_constraints.proofs.flows.flow_maybe.Goals as goal

pub returns-in-Some : goal.returns-in-Some
returns-in-Some c =
    λ k told.
    ok_as c.flow.result _ _
    (sym (ap (λ o. fl.flow_maybe k o c.args.t.now c.args.node c.args.links) c.in-Some.is))
    (c.flow.ensures k told)

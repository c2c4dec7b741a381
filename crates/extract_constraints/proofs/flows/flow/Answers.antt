use Rattle.std.proofs.Common.{ap, ◌∙◌}
use Rattle.extract_constraints.specs.Flows as fl
use Rattle.marked_types.proofs.Forms.{ok_as}
use Rattle.extract_constraints.proofs.flows.flow.Goals as goal

pub returns-in-Some : goal.returns-in-Some
returns-in-Some c =
    λ k told.
    ok_as c.to_type.result _ _
    (ap (λ o. fl.to_type k c.in-Some.place c.args.s.now c.args.t.now o c.args.node c.args.links) c.head_mark-in-Some.ensures
    ∙ ap (λ o. fl.flow_from o k c.args.s.now c.args.t.now c.args.node c.args.links) c.in-Some.ensures)
    (c.to_type.ensures k told)

pub returns-in-None : goal.returns-in-None
returns-in-None c =
    λ k told.
    ok_as c.equal_arguments.result _ _
    (ap (λ o. fl.flow_from o k c.args.s.now c.args.t.now c.args.node c.args.links) c.in-None.ensures)
    (c.equal_arguments.ensures k told)

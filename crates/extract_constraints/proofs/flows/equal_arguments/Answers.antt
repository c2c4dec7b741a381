use Rattle.class_places.proofs.Steps.{pair}
use Rattle.extract_constraints.specs.Flows as fl
use Rattle.marked_types.proofs.Forms.{ok_as}
use Rattle.extract_constraints.proofs.flows.equal_arguments.Goals as goal

pub returns : goal.returns
returns c =
    λ k told.
    ok_as c.arguments_at.result _ _
    (pair (λ o xs. fl.arguments_at k c.args.s.now o xs c.args.node c.args.links) _ _ _ _ c.class_number.ensures c.args_of.ensures)
    (c.arguments_at.ensures k told)

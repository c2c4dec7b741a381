use Rattle.std.proofs.Common.{ap}
use Rattle.extract_constraints.specs.Told.{where_of}
use Rattle.extract_constraints.specs.Flows as fl
use Rattle.marked_types.proofs.Forms.{ok_as}
use Rattle.extract_constraints.proofs.flows.item.Goals as goal

pub returns-in-None : goal.returns-in-None
returns-in-None c =
    λ k told.
    ok_as c.walked_by.result _ _
    (ap (λ o. fl.item_with o k (where_of c.args.at.now) c.args.s.now) c.in-None.ensures)
    (c.walked_by.ensures k told)

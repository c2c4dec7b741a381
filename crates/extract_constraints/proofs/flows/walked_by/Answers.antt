use Rattle.std.proofs.Common.{ap, sym, ◌∙◌}
use Rattle.extract_constraints.specs.Flows as fl
use Rattle.marked_types.proofs.Forms.{ok_as}
use Rattle.extract_constraints.proofs.flows.walked_by.Goals as goal

pub returns-in_ok-up-in-Some : goal.returns-in_ok-up-in-Some
returns-in_ok-up-in-Some c =
    λ k told.
    ok_as c.first_arg.result _ _
    (ap fl.first_arg (c.in_ok-up-in-Some.ensures k told) ∙ sym (ap (λ o. fl.walked_by k o c.args.s.now) c.in-Some.is))
    c.first_arg.ensures

use Rattle.std.proofs.Common.{ap, sym, ◌∙◌}
use Rattle.extract_constraints.specs.Flows as fl
use Rattle.marked_types.proofs.Forms.{ok_as}
use Rattle.extract_constraints.proofs.flows.args_equal.Goals as goal

pub returns-in-Some : goal.returns-in-Some
returns-in-Some c =
    ok_as c.all_equal.result _ _
    (ap (λ xs. fl.all_equal xs c.args.ys.now c.args.node c.args.links) c.args_of.ensures ∙ sym (ap (λ o. fl.args_equal o c.args.ys.now c.args.node c.args.links) c.in-Some.is))
    c.all_equal.ensures

use Rattle.std.proofs.Common.{sym, ◌∙◌}
use Rattle.class_places.proofs.Steps.{pair}
use Rattle.extract_constraints.specs.Flows as fl
use Rattle.marked_types.proofs.Forms.{ok_as}
use Rattle.extract_constraints.proofs.flows.both_args.Goals as goal

pub returns-in-Some-t : goal.returns-in-Some-t
returns-in-Some-t c =
    ok_as c.all_equal.result _ _
    (pair (λ xs ys. fl.all_equal xs ys c.args.node c.args.links) _ _ _ _ c.args_of.ensures c.args_of-in-Some-t.ensures ∙ sym (pair (λ o q. fl.both_args o q c.args.node c.args.links) _ _ _ _ c.in-Some.is c.in-Some-t.is))
    c.all_equal.ensures

use Rattle.std.proofs.Common.{Some, ap, ◌∙◌}
use Rattle.java_core.specs.View.{plain}
use Rattle.class_places.proofs.Steps.{pair}
use Rattle.type_constraints.proofs.Steps.{node_at}
use Rattle.extract_constraints.specs.Told.{where_of}
use Rattle.extract_constraints.specs.Flows as fl
use Rattle.marked_types.proofs.Forms.{ok_as}
use Rattle.extract_constraints.proofs.flows.declare.Goals as goal

pub returns : goal.returns
returns c =
    λ k told.
    let a = where_of c.args.at.now in
    let x = c.args.x.now in
    ok_as c.initialise.result _ _
    (ap (fl.initialise k a c.args.locals.now (plain x) (Some c.args.t.now)) (c.in_ok-links.ensures ∙ pair (λ b n. fl.need_if_filled b c.args.t.now n c.args.links) _ _ _ _ c.is_filled.ensures (node_at x)))
    (c.initialise.ensures k told)

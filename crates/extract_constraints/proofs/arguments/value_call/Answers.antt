use Rattle.std.proofs.Common.{ap, ◌∙◌}
use Rattle.extract_constraints.specs.Told.{where_of}
use Rattle.java_core.specs.View.{plains}
use Rattle.type_constraints.proofs.Steps.{three}
use Rattle.marked_types.proofs.Forms.{ok_as}
use Rattle.extract_constraints.proofs.Each.{ty_at}
use Rattle.extract_constraints.specs.Arguments as ar
use Rattle.extract_constraints.specs.Receivers as re
use Rattle.extract_constraints.proofs.arguments.value_call.Goals as goal

pub returns : goal.returns
returns c =
    λ k told.
    let a = where_of c.args.at.now in
    ok_as c.call.result _ _
    (three (λ s t ls. ar.call k a c.args.locals.now c.args.node s t c.args.free c.args.method (plains c.args.xs.now) ls) _ _ _ _ _ _ (c.in_ok-marked.ensures k told) (ty_at c.args.x.now) (c.in_ok-links.ensures k told ∙ ap (λ s. re.method_use k a s c.args.method c.args.node c.args.links) (c.in_ok-marked.ensures k told)))
    (c.call.ensures k told)

use Rattle.std.proofs.Common.{ap, ◌∙◌}
use Rattle.java_core.specs.View.{plains}
use Rattle.class_places.proofs.Steps.{pair}
use Rattle.extract_constraints.specs.Told.{where_of}
use Rattle.extract_constraints.specs.Arguments as ca
use Rattle.extract_constraints.specs.Links as li
use Rattle.extract_constraints.proofs.stmts.on_super_call.Goals as goal

pub returns : goal.returns
returns c =
    λ k told.
    let a = where_of c.args.at.now in
    let xs = plains c.args.args.now in
    ap (li.walked_with c.args.s.locals)
    (c.in_ok-links-2.ensures k told ∙ pair (λ ls l. ca.super_call k a ls c.args.node c.args.constructor xs l) _ _ _ _ c.as_slice-2.ensures
    (c.in_ok-links.ensures k told ∙ ap (λ ls. li.values k a ls xs c.args.s.links) c.as_slice.ensures))

use Rattle.std.proofs.Common.{ap, ◌∙◌}
use Rattle.java_core.specs.View.{plain}
use Rattle.class_places.proofs.Steps.{pair}
use Rattle.type_constraints.proofs.Steps.{three}
use Rattle.extract_constraints.specs.Told.{where_of}
use Rattle.extract_constraints.specs.Flows as fl
use Rattle.extract_constraints.specs.Links as li
use Rattle.extract_constraints.proofs.stmts.looped.Goals as goal

pub returns : goal.returns
returns c =
    λ k told.
    let a = where_of c.args.at.now in
    let s = c.args.s in
    let x = plain c.args.x.now in
    pair li.walked_with _ _ _ _ (c.in_ok-locals.ensures ∙ ap (li.with_local s.locals c.args.var.now.slot) c.in_ok-t.ensures)
    (c.in_ok-links-2.ensures k told ∙ three (λ ls t l. fl.walked k a ls x t l) _ _ _ _ _ _ c.as_slice-2.ensures c.in_ok-t.ensures
    (c.in_ok-links.ensures k told ∙ ap (λ ls. li.value k a ls x s.links) c.as_slice.ensures))

use Rattle.std.proofs.Common.{ap}
use Rattle.std.specs.Prelude.{◌&&◌, ◌||◌}
use Rattle.std.specs.List.{list_any}
use Rattle.type_places.specs.Changes.{is_param}
use Rattle.thrown_exceptions.proofs.Steps.{ok_as}
use Rattle.type_constraints.specs.Asked.{asked}
use Rattle.type_constraints.specs.Declarations as de
use Rattle.type_constraints.proofs.declarations.changes_hiding.Goals as goal

pub returns : goal.returns
returns c =
    λ f are ts ties.
    let a = asked c.args.at.now f ts in
    ok_as c.some_hidden_by_change.result _ _
    (ap (list_any (λ k. (is_param c.args.at.now.change.now c.args.m c.args.at.now.change.now.index || is_param c.args.at.now.change.now k c.args.at.now.change.now.index) && de.is_hidden a c.args.info.now k)) (c.in_ok-above.ensures f are ts ties))
    (c.some_hidden_by_change.ensures f are ts ties)

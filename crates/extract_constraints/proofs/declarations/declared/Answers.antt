use Rattle.std.proofs.Common.{map}
use Rattle.extract_constraints.specs.Told.{where_of}
use Rattle.java_core.specs.View.{param_plain}
use Rattle.class_places.proofs.Steps.{pair}
use Rattle.marked_types.proofs.Forms.{ok_as}
use Rattle.extract_constraints.specs.Declarations as de
use Rattle.extract_constraints.proofs.declarations.declared.Goals as goal

pub returns : goal.returns
returns c =
    λ k told.
    let a = where_of c.args.at.now in
    ok_as c.params.result _ _
    (pair (λ xs ls. de.params k a c.args.method.now.method c.args.info.now c.args.hidden.now 0 (map param_plain xs) ls) _ _ _ _ c.as_slice.ensures (c.in_ok-links.ensures k told))
    (c.params.ensures k told)

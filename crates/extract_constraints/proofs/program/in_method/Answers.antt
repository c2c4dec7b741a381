use Rattle.std.specs.Option.{option_map}
use Rattle.std.proofs.Common.{ap}
use Rattle.java_core.specs.View.{method_plain, stmt_plain}
use Rattle.extract_constraints.specs.Told.{where_of}
use Rattle.extract_constraints.specs.Links as li
use Rattle.marked_types.proofs.Forms.{ok_as}
use Rattle.extract_constraints.proofs.program.in_method.Goals as goal

pub returns : goal.returns
returns c =
    λ k told.
    let a = where_of c.args.at.now in
    ok_as c.in_body.result _ _
    (ap (li.in_body k a (method_plain c.args.method.now) (option_map stmt_plain c.args.method.now.body)) (c.in_ok-links.ensures k told))
    (c.in_body.ensures k told)

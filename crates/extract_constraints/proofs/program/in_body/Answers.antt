use Rattle.std.specs.Option.{option_map}
use Rattle.std.proofs.Common.{ap, sym}
use Rattle.java_core.specs.View.{method_plain, stmt_plain}
use Rattle.extract_constraints.specs.Told.{where_of}
use Rattle.extract_constraints.specs.Links as li
use Rattle.marked_types.proofs.Forms.{ok_as}
use Rattle.extract_constraints.proofs.program.in_body.Goals as goal

pub returns-in-Some : goal.returns-in-Some
returns-in-Some c =
    λ k told.
    let a = where_of c.args.at.now in
    ok_as c.in_known_body.result _ _
    (sym (ap (λ o. li.in_body k a (method_plain c.args.method.now) (option_map stmt_plain o) c.args.links) c.in-Some.is))
    (c.in_known_body.ensures k told)

use Rattle.std.specs.Option.{option_copied}
use Rattle.std.proofs.Common.{[], ap, sym, ◌∙◌}
use Rattle.java_core.specs.View.{plain}
use Rattle.extract_constraints.specs.Told.{where_of}
use Rattle.extract_constraints.specs.Flows as fl
use Rattle.extract_constraints.specs.Links as li
use Rattle.marked_types.proofs.Forms.{ok_as}
use Rattle.extract_constraints.proofs.program.field_value.Goals as goal

pub returns-in-None : goal.returns-in-None
returns-in-None c =
    λ k told.
    let a = where_of c.args.at.now in
    c.in_ok-links.ensures k told ∙ sym (ap (λ o. li.field_value k a (option_copied o) (plain c.args.x.now) c.args.links) c.in-None.is)

pub returns-in-Some : goal.returns-in-Some
returns-in-Some c =
    λ k told.
    let a = where_of c.args.at.now in
    let x = plain c.args.x.now in
    ok_as c.declare.result _ _
    (ap (fl.declare k a [] x c.in-Some.t.now) (c.in_ok-links.ensures k told) ∙ sym (ap (λ o. li.field_value k a (option_copied o) x c.args.links) c.in-Some.is))
    (c.declare.ensures k told)

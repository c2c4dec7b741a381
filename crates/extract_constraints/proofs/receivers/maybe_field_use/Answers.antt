use Rattle.std.proofs.Common.{sym, ap, ◌∙◌}
use Rattle.std.specs.Option.{option_map}
use Rattle.java_core.specs.View.{maybe, plain}
use Rattle.marked_types.proofs.Forms.{ok_as}
use Rattle.extract_constraints.specs.Told.{where_of}
use Rattle.extract_constraints.specs.Receivers as spec
use Rattle.extract_constraints.proofs.receivers.maybe_field_use.Goals as goal

pub returns-in-None : goal.returns-in-None
returns-in-None c =
    λ k told.
    sym (ap (λ o. spec.maybe_field_use k (where_of c.args.at.now) c.args.locals.now (maybe (option_map plain o)) c.args.node c.args.links) c.in-None.is)

pub returns-in-Some : goal.returns-in-Some
returns-in-Some c =
    λ k told.
    let a = where_of c.args.at.now in
    let ls = c.args.locals.now in
    ok_as c.field_use.result _ _
    (ap (λ x. spec.field_use k a ls (plain x) c.args.node c.args.links) c.get.ensures
    ∙ sym (ap (λ o. spec.maybe_field_use k a ls (maybe (option_map plain o)) c.args.node c.args.links) c.in-Some.is))
    (c.field_use.ensures k told)

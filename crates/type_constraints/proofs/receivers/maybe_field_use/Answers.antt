use Rattle.std.proofs.Common.{sym, ap, ◌∙◌}
use Rattle.std.specs.Option.{option_map}
use Rattle.java_core.specs.View.{maybe, plain}
use Rattle.thrown_exceptions.proofs.Steps.{ok_as}
use Rattle.type_constraints.specs.Asked.{asked}
use Rattle.type_constraints.specs.Uses as us
use Rattle.type_constraints.proofs.receivers.maybe_field_use.Goals as goal

pub returns-in-Some : goal.returns-in-Some
returns-in-Some c =
    λ f are ts ties.
    let a = asked c.args.at.now f ts in
    ok_as c.field_use.result _ _
    (ap (λ x. us.field_use a c.args.node (plain x) c.args.field c.args.first) c.get.ensures ∙ sym (ap (λ o. us.maybe_field_use a c.args.node (maybe (option_map plain o)) c.args.field c.args.first) c.in-Some.is))
    (c.field_use.ensures f are ts ties)

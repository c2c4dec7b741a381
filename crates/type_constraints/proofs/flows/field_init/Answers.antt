use Rattle.std.proofs.Common.{ap, ◌∙◌}
use Rattle.java_core.specs.View.{plain}
use Rattle.thrown_exceptions.proofs.Steps.{ok_as}
use Rattle.type_constraints.specs.Asked.{asked}
use Rattle.type_constraints.specs.Changed as ch
use Rattle.type_constraints.proofs.flows.field_init.Goals as goal

pub returns-in-Some : goal.returns-in-Some
returns-in-Some c =
    λ f are ts ties.
    let a = asked c.args.at.now f ts in
    ok_as c.init.result _ _
    (ap (λ b. ch.init a b c.in-Some.info.now.ty (plain c.args.x.now) c.args.first) c.is_field.ensures ∙ ap (λ o. ch.field_init a c.args.field o (plain c.args.x.now) c.args.first) c.in-Some.ensures.value)
    (c.init.ensures f are ts ties)

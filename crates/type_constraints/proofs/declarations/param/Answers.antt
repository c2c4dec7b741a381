use Rattle.std.proofs.Common.{sym, ap}
use Rattle.std.specs.Option.{option_copied, option_map}
use Rattle.java_core.specs.View.{param_plain}
use Rattle.thrown_exceptions.proofs.Steps.{ok_as}
use Rattle.type_constraints.specs.Asked.{asked}
use Rattle.type_constraints.specs.Declarations as de
use Rattle.type_constraints.proofs.declarations.param.Goals as goal

pub returns-in-Some : goal.returns-in-Some
returns-in-Some c =
    λ f are ts ties.
    let a = asked c.args.at.now f ts in
    ok_as c.param_at.result _ _
    (sym (ap (λ o. de.param a c.args.m c.args.info.now (option_map param_plain (option_copied o)) c.args.first) c.in-Some.is))
    (c.param_at.ensures f are ts ties)

use Rattle.std.proofs.Common.{sym, ap}
use Rattle.std.specs.Option.{option_map}
use Rattle.java_core.specs.View.{plain}
use Rattle.thrown_exceptions.proofs.Steps.{ok_as}
use Rattle.type_constraints.specs.Asked.{asked}
use Rattle.type_constraints.specs.Constraints as co
use Rattle.type_constraints.proofs.exprs.optional.Goals as goal

pub returns-in-Some : goal.returns-in-Some
returns-in-Some c =
    λ f are ts ties.
    let a = asked c.args.at.now f ts in
    ok_as c.value.result _ _
    (sym (ap (λ o. co.optional a (option_map plain o) c.args.first) c.in-Some.is))
    (c.value.ensures f are ts ties)

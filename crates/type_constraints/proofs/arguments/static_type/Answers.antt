use Rattle.std.proofs.Common.{sym, ap}
use Rattle.std.specs.Option.{option_map}
use Rattle.java_core.specs.View.{maybe, plain}
use Rattle.thrown_exceptions.proofs.Steps.{ok_as}
use Rattle.type_constraints.specs.Arguments as ar
use Rattle.type_constraints.specs.Asked.{asked}
use Rattle.type_constraints.proofs.arguments.static_type.Goals as goal

pub returns-in-None : goal.returns-in-None
returns-in-None c =
    λ f are ts ties.
    let a = asked c.args.at.now f ts in
    ok_as c.named_type.result _ _
    (sym (ap (λ o. ar.static_type a c.args.before (maybe (option_map plain o))) c.in-None.is))
    (c.named_type.ensures f are ts ties)

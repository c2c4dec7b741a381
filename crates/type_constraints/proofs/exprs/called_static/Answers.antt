use Rattle.std.proofs.Common.{ap}
use Rattle.std.specs.Option.{option_map}
use Rattle.java_core.specs.View.{maybe, plain, plains}
use Rattle.thrown_exceptions.proofs.Steps.{ok_as}
use Rattle.type_constraints.specs.Arguments as ar
use Rattle.type_constraints.specs.Asked.{asked}
use Rattle.type_constraints.proofs.exprs.called_static.Goals as goal

pub returns : goal.returns
returns c =
    λ f are ts ties.
    let a = asked c.args.at.now f ts in
    ok_as c.static_arguments.result _ _
    (ap (ar.static_arguments a c.args.before (maybe (option_map plain c.args.of.now)) c.args.method (plains c.args.args.now)) (c.in_ok-first.ensures f are ts ties))
    (c.static_arguments.ensures f are ts ties)

use Rattle.type_names.proofs.Named.{declared_first}
use Rattle.type_names.proofs.rules.type_breach.Goals as goal

pub returns-in-Some : goal.returns-in-Some
returns-in-Some c =
    declared_first c.args.known.now c.in-Some.node c.args.root c.args.seen c.breach_if.result c.breach_if-in-Some.result c.earlier.result c.in-Some.is c.breach_if.ensures c.breach_if-in-Some.ensures c.earlier.ensures

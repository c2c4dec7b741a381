use Rattle.std.proofs.Common.{map, subst}
use Rattle.std.proofs.lemmas.List.{take_all}
use Rattle.java_tree.specs.View.{unit_plain}
use Rattle.rule_order.specs.First.{IsFirst}
use Rattle.type_names.specs.Rules.{Among}
use Rattle.type_names.specs.Searches.{LibBreaches}
use Rattle.type_names.proofs.Breaches.{among_more}
use Rattle.type_names.proofs.rules.first_lib_breach.Goals as goal

pub loop-unit-preserved : goal.loop-unit-preserved
loop-unit-preserved c =
    among_more unit_plain (LibBreaches) c.args.lib.now c.loop-unit.unit-index c.unit-item.result c.loop-unit.found c.lib_breach.result c.earlier-found.result c.loop-unit-test.true c.unit-item.is
    c.loop-unit.invariant c.lib_breach.ensures c.earlier-found.ensures

pub returns : goal.returns
returns c =
    subst (λ us. IsFirst (Among (LibBreaches) (map unit_plain us)) c.loop-unit.found) (take_all c.loop-unit.unit-index c.args.lib.now c.loop-unit-test.false) c.loop-unit.invariant

use Rattle.std.proofs.Common.{map, subst}
use Rattle.std.proofs.lemmas.List.{take_all}
use Rattle.java_tree.specs.View.{unit_plain}
use Rattle.rule_order.specs.First.{IsFirst}
use Rattle.type_names.specs.Rules.{Among}
use Rattle.type_names.specs.Searches.{UserBreaches}
use Rattle.type_names.proofs.Breaches.{among_more}
use Rattle.type_names.proofs.rules.first_user_breach.Goals as goal

pub loop-unit-preserved : goal.loop-unit-preserved
loop-unit-preserved c = λ lib is.
    among_more unit_plain (UserBreaches c.args.java (map unit_plain c.args.user.now) lib) c.args.user.now c.loop-unit.unit-index c.unit-item.result c.loop-unit.found c.user_breach.result c.earlier-found.result
    c.loop-unit-test.true c.unit-item.is (c.loop-unit.invariant lib is) (c.user_breach.ensures lib is) c.earlier-found.ensures

pub returns : goal.returns
returns c = λ lib is.
    subst (λ us. IsFirst (Among (UserBreaches c.args.java (map unit_plain c.args.user.now) lib) (map unit_plain us)) c.loop-unit.found) (take_all c.loop-unit.unit-index c.args.user.now c.loop-unit-test.false)
    (c.loop-unit.invariant lib is)

use Rattle.rule_order.proofs.Firsts.{first_of_both}
use Rattle.override_rules.specs.Judged.{DeclaredBreaches, InheritedBreaches}
use Rattle.override_rules.proofs.Firsts.{override_first}
use Rattle.override_rules.proofs.first.first_override_breach.Goals as goal

pub returns : goal.returns
returns c =
    override_first c.args.w.now c.earlier.result
    (first_of_both (DeclaredBreaches c.args.w.now) (InheritedBreaches c.args.w.now) c.in_ok-declared.declared c.in_ok-inherited.inherited c.earlier.result c.earlier.ensures c.in_ok-declared.ensures
    c.in_ok-inherited.ensures)

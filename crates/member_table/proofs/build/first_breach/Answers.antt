use Rattle.rule_order.proofs.Firsts.{first_of_both}
use Rattle.override_rules.specs.Rules.{OverrideBreaches}
use Rattle.inherited_rules.specs.Rules.{InheritedBreaches}
use Rattle.member_table.proofs.build.first_breach.Goals as goal

pub returns : goal.returns
returns c =
    first_of_both (OverrideBreaches c.args.w.now) (InheritedBreaches c.args.w.now) c.in_ok-of_overriding.of_overriding c.in_ok-of_members.of_members c.earlier.result c.earlier.ensures c.in_ok-of_overriding.ensures
    c.in_ok-of_members.ensures

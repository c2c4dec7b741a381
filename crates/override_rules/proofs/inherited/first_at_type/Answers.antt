use Rattle.std.proofs.Common.{◌≡◌, Some, sym, subst}
use Rattle.std.specs.Prelude.{slice_get}
use Rattle.rule_order.specs.First.{IsFirst}
use Rattle.class_world.specs.declared.world.TypeInfo.{TypeInfo}
use Rattle.override_rules.specs.Judged.{BreaksMet, TypeBreaches}
use Rattle.override_rules.proofs.Firsts.{first_at, some_node}
use Rattle.override_rules.proofs.inherited.first_at_type.Goals as goal

pub returns-then-is_none : goal.returns-then-is_none
returns-then-is_none c b h = some_node c.node_of-node.result c.is_none.result b.node c.is_none.ensures c.if-is_none.true ((c.node_of-node.ensures b.node).1 h.1)

pub lowest_met-requires-clause-meetings : goal.lowest_met-requires-clause-meetings
lowest_met-requires-clause-meetings c = c.meetings.ensures c.args.w.now c.requires.ties

pub returns : goal.returns
returns c =
    subst (IsFirst (TypeBreaches c.args.w.now c.args.c)) (sym c.breach_at.ensures)
    (first_at (BreaksMet c.args.w.now c.args.c) (λ n. (info : TypeInfo) × (slice_get c.args.w.now.types c.args.c ≡ Some info) × (info.node ≡ Some n)) c.node_of-node.result c.in_ok-rule.rule c.node_of-node.ensures
    c.in_ok-rule.ensures)

use Rattle.std.proofs.Common.{arith}
use Rattle.inherited_rules.proofs.Firsts.{next_below, all_below}
use Rattle.inherited_rules.proofs.search.first_inherited_breach.Goals as goal

pub loop-c-preserved : goal.loop-c-preserved
loop-c-preserved c = next_below c.args.w.now c.loop-c.c c.loop-c.first c.in_ok-breach_of.field-0 c.earlier-first.result c.loop-c.invariant c.in_ok-breach_of.ensures c.earlier-first.ensures

pub returns : goal.returns
returns c = all_below c.args.w.now c.loop-c.c c.loop-c.first (omega (arith, c.loop-c-test.false, c.len-c-end.ensures)) c.loop-c.invariant

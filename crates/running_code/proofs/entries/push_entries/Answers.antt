use Rattle.std.proofs.Common.{arith}
use Rattle.std.proofs.lemmas.Grind.{common_steps}
use Rattle.running_code.proofs.Lists.{more_entries}
use Rattle.running_code.proofs.entries.push_entries.Goals as goal

pub loop-class-preserved : goal.loop-class-preserved
loop-class-preserved c = record {
  each = more_entries c.loop-class.out c.push.new.self c.in_ok-entry.entry c.loop-class.invariant.each c.in_ok-entry.ensures.entry c.in_ok-push.ensures.ok;
  classes = grind (arith, common_steps);
}

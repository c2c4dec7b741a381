use Rattle.method_ties.specs.Ties.{AreReplaced}
use Rattle.method_ties.proofs.Firsts.{all_push}
use Rattle.method_ties.proofs.replace.all_replaced.Goals as goal

pub replaced_by-requires-clause-tables : goal.replaced_by-requires-clause-tables
replaced_by-requires-clause-tables c = c.loop-m.invariant.1

pub loop-m-preserved : goal.loop-m-preserved
loop-m-preserved c = (
  all_push (AreReplaced c.args.w.now) c.loop-m.all.items c.push.new.self.items c.loop-m.m c.in_ok-replaced_by.field-0 c.loop-m.invariant.0 c.in_ok-replaced_by.ensures.replaced c.in_ok-push.ensures.items,
  c.in_ok-replaced_by.ensures.tables,
)

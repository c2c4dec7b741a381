use Rattle.decl_rules.proofs.Repeating.{again_step}
use Rattle.decl_rules.proofs.repeats.note_again.Goals as goal

pub loop-item-preserved : goal.loop-item-preserved
loop-item-preserved c =
    again_step c.args.rule c.loop-item.seen.keys c.insert.new.self.keys c.args.items.now c.loop-item.item-index _ c.loop-item.first c.noted-first.result _ c.in_ok-is_new.is_new
    c.loop-item-test.true c.noted-first.ensures c.in_ok-is_new.ensures.added c.in_ok-is_new.ensures.keys c.loop-item.invariant

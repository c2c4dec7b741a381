use Rattle.std.proofs.Common.{◌∙◌}
use Rattle.extract_interface.proofs.Lists.{next_copied}
use Rattle.extract_interface.proofs.created.push_copies.Goals as goal

pub loop-text-preserved : goal.loop-text-preserved
loop-text-preserved c =
    next_copied c.args.texts.now c.loop-text.copies c.push.new.self _ c.loop-text.text-index c.text-item.result c.in_ok-from_slice.field-0 c.loop-text-test.true c.text-item.is
    (c.in_ok-from_slice.ensures ∙ c.as_slice.ensures) c.in_ok-push.ensures.ok c.loop-text.invariant

use Rattle.std.proofs.Common.{◌+◌, drop, length, subst, arith}
use Rattle.edit_writer.specs.Edits.{AreOrdered}
use Rattle.edit_writer.proofs.Orders.{first_left, next_fits}
use Rattle.edit_writer.proofs.edits.apply.Goals as goal

pub split_at-requires : goal.split_at-requires
split_at-requires c =
    let e = c.edit-item.result in
    let left = first_left c.args.edits.now c.loop-edit.edit-index e (omega arith) c.edit-item.is in
    let ordered = subst (λ es. AreOrdered c.loop-edit.at es (length c.args.text.now)) left c.loop-edit.invariant.ordered in
    (next_fits c.loop-edit.at e (drop (c.loop-edit.edit-index + 1) c.args.edits.now) c.args.text.now c.loop-edit.rest.now ordered c.loop-edit.invariant.rest).0

pub split_at-requires-in-loop-edit : goal.split_at-requires-in-loop-edit
split_at-requires-in-loop-edit c =
    let e = c.edit-item.result in
    let left = first_left c.args.edits.now c.loop-edit.edit-index e (omega arith) c.edit-item.is in
    let ordered = subst (λ es. AreOrdered c.loop-edit.at es (length c.args.text.now)) left c.loop-edit.invariant.ordered in
    let fits = (next_fits c.loop-edit.at e (drop (c.loop-edit.edit-index + 1) c.args.edits.now) c.args.text.now c.loop-edit.rest.now ordered c.loop-edit.invariant.rest).1 in
    omega (arith, fits, c.split_at.ensures.back_len)

use Rattle.std.proofs.Common.{◌↔◌, drop}
use Rattle.edit_writer.specs.Edits.{AreOrdered}
use Rattle.changed_files.proofs.order.are_ordered.Given as goal

-- all are in order exactly if the rest is
abbrev pub invariant-loop-edit : goal.invariant-loop-edit
invariant-loop-edit l = AreOrdered l.at (drop l.edit-index l.edits) l.end ↔ AreOrdered 0 l.edits l.end

use Rattle.std.proofs.Common.{◌↔◌, drop}
use Rattle.changed_files.specs.NewFiles.{AreAllOrdered}
use Rattle.changed_files.proofs.order.are_all_ordered.Given as goal

-- all are in order exactly if the rest is
abbrev pub invariant-loop-file : goal.invariant-loop-file
invariant-loop-file l = AreAllOrdered (drop l.file l.edits) (drop l.file l.texts) ↔ AreAllOrdered l.edits l.texts

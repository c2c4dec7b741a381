use Rattle.std.proofs.Common.{◌≡◌, ◌++◌, drop}
use Rattle.changed_files.specs.NewFiles.{AreAllOrdered, all_edited}
use Rattle.changed_files.proofs.files.new_texts.Given as goal

abbrev pub invariant-loop-file : goal.invariant-loop-file
invariant-loop-file l = record {
  texts : l.made ++ all_edited (drop l.file l.edits) (drop l.file l.texts) ≡ all_edited l.edits l.texts;
  ordered : AreAllOrdered (drop l.file l.edits) (drop l.file l.texts);
}

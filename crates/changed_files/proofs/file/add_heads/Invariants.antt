use Rattle.std.proofs.Common.{◌≡◌, ◌++◌, drop, map}
use Rattle.changed_files.specs.FileEdits.{head_edit}
use Rattle.changed_files.proofs.file.add_heads.Given as goal

abbrev pub invariant-loop-head : goal.invariant-loop-head
invariant-loop-head l = l.edits ++ map (head_edit l.name) (drop l.head-index l.heads) ≡ l.fn.edits ++ map (head_edit l.name) l.heads

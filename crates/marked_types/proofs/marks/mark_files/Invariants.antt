use Rattle.std.proofs.Common.{◌≡◌, drop, map}
use Rattle.java_core.specs.View.{file_plain}
use Rattle.marked_types.specs.Table as spec
use Rattle.marked_types.proofs.marks.mark_files.Given as goal

abbrev pub invariant-loop-file : goal.invariant-loop-file
invariant-loop-file l = spec.mark_files l.class l.w (map file_plain (drop l.file-index l.files)) l.marks ≡ spec.mark_files l.class l.w (map file_plain l.files) l.fn.marks

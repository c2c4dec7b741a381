use Rattle.std.proofs.Common.{◌≡◌, ◌++◌, map, drop}
use Rattle.java_core.specs.View.{file_plain}
use Rattle.core_meaning.specs.Code as code
use Rattle.running_code.specs.Entries.{AreEntries, class_of}
use Rattle.running_code.proofs.entries.entries_of.Given as goal

abbrev pub invariant-loop-file : goal.invariant-loop-file
invariant-loop-file l = record {
  each : AreEntries l.entries;
  classes : map class_of l.entries ++ code.classes_of (map file_plain (drop l.file-index l.core.files)) ≡ code.classes_of (map file_plain l.core.files);
}

use Rattle.std.proofs.Common.{◌≡◌, ◌++◌, map, drop}
use Rattle.java_core.specs.View.{class_plain}
use Rattle.running_code.specs.Entries.{AreEntries, class_of}
use Rattle.running_code.proofs.entries.push_entries.Given as goal

abbrev pub invariant-loop-class : goal.invariant-loop-class
invariant-loop-class l = record {
  each : AreEntries l.out;
  classes : map class_of l.out ++ map class_plain (drop l.class-index l.file.classes) ≡ map class_of l.fn.out ++ map class_plain l.file.classes;
}

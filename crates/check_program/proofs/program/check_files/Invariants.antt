use Rattle.std.proofs.Common.{◌≡◌, ◌+◌, ◌++◌, ℕ, map, drop, take, length}
use Rattle.java_tree.specs.View as view
use Rattle.checked.specs.Checked.{behind}
use Rattle.type_facts.specs.Facts.{AreFacts, Facts}
use Rattle.java_core.specs.View.{file_plain}
use Rattle.unchecked_ops.specs.Programs as facts
use Rattle.check_program.specs.Typing as spec
use Rattle.check_program.proofs.program.check_files.Given as goal

abbrev pub invariant-loop-file : goal.invariant-loop-file
invariant-loop-file l = (fs : ℕ → Facts) → facts.AreFileFacts l.q l.files fs → behind (map file_plain l.done) (spec.files_of fs l.file l.number (map view.unit_plain (drop l.file (l.user ++ l.lib)))) ≡ spec.files_of fs 0 19 (map view.unit_plain (l.user ++ l.lib))

use Rattle.std.proofs.Common.{◌≡◌, drop, map}
use Rattle.std.specs.List.{find}
use Rattle.java_core.specs.View.{file_plain}
use Rattle.core_meaning.specs.Code.{Code, classes_of}
use Rattle.core_meaning.specs.Runs.{is_named}
use Rattle.running_code.specs.Running.{IsCode}
use Rattle.program_runs.proofs.classes.named_in.Given as goal

abbrev pub invariant-loop-file : goal.invariant-loop-file
invariant-loop-file l = (c : Code) → IsCode l.g c
    → find (is_named c l.name) (classes_of (map file_plain (drop l.file-index l.files))) ≡ find (is_named c l.name) (classes_of (map file_plain l.files))

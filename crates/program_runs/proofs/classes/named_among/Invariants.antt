use Rattle.std.proofs.Common.{◌≡◌, drop, map}
use Rattle.std.specs.List.{find}
use Rattle.java_core.specs.View.{class_plain}
use Rattle.core_meaning.specs.Code.{Code}
use Rattle.core_meaning.specs.Runs.{is_named}
use Rattle.running_code.specs.Running.{IsCode}
use Rattle.program_runs.proofs.classes.named_among.Given as goal

abbrev pub invariant-loop-class : goal.invariant-loop-class
invariant-loop-class l = (c : Code) → IsCode l.g c → find (is_named c l.name) (map class_plain (drop l.class-index l.classes)) ≡ find (is_named c l.name) (map class_plain l.classes)

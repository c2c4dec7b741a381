use Rattle.std.proofs.Common.{◌≡◌, None, drop, map}
use Rattle.java_core.specs.View.{file_plain}
use Rattle.type_constraints.specs.Constraints as spec
use Rattle.type_constraints.proofs.Each.{Each}
use Rattle.type_constraints.proofs.program.in_files.Given as goal

abbrev pub invariant-loop-file : goal.invariant-loop-file
invariant-loop-file l = Each l.at (λ a. spec.in_files a (map file_plain (drop l.file-index l.files)) l.first ≡ spec.in_files a (map file_plain l.files) None)

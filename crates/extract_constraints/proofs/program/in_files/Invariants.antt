use Rattle.std.proofs.Common.{◌≡◌, drop, map}
use Rattle.java_core.specs.View.{file_plain}
use Rattle.extract_constraints.specs.Links as li
use Rattle.extract_constraints.proofs.Each.{Each}
use Rattle.extract_constraints.proofs.program.in_files.Given as goal

abbrev pub invariant-loop-file : goal.invariant-loop-file
invariant-loop-file l = Each l.at (λ k a. li.in_files k a (map file_plain (drop l.file-index l.files)) l.links ≡ li.in_files k a (map file_plain l.files) l.fn.links)

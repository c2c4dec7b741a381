use Rattle.std.proofs.Common.{◌≡◌, drop, map}
use Rattle.java_core.specs.View.{file_plain}
use Rattle.reachability.specs.Reached as spec
use Rattle.reachability.proofs.program.in_files.Given as goal

abbrev pub invariant-loop-file : goal.invariant-loop-file
invariant-loop-file l = spec.in_files (map file_plain (drop l.file-index l.files)) l.first ≡ spec.in_files (map file_plain l.files) l.fn.first

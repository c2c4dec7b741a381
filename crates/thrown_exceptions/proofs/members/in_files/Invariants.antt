use Rattle.std.proofs.Common.{◌≡◌, Bool, drop, map}
use Rattle.class_world.specs.declared.world.JavaType.{JavaType}
use Rattle.java_core.specs.View.{file_plain}
use Rattle.thrown_exceptions.specs.Thrown as spec
use Rattle.thrown_exceptions.specs.Thrown.{IsOrder}
use Rattle.thrown_exceptions.proofs.members.in_files.Given as goal

abbrev pub invariant-loop-file : goal.invariant-loop-file
invariant-loop-file l = (below : JavaType → JavaType → Bool) → IsOrder l.w below → spec.in_files l.w below (map file_plain (drop l.file-index l.files)) l.first ≡ spec.in_files l.w below (map file_plain l.files) l.initial.first

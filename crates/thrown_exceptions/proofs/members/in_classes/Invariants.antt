use Rattle.std.proofs.Common.{◌≡◌, Bool, drop, map}
use Rattle.class_world.specs.declared.world.JavaType.{JavaType}
use Rattle.java_core.specs.View.{class_plain}
use Rattle.thrown_exceptions.specs.Thrown as spec
use Rattle.thrown_exceptions.specs.Thrown.{IsOrder}
use Rattle.thrown_exceptions.proofs.members.in_classes.Given as goal

abbrev pub invariant-loop-class : goal.invariant-loop-class
invariant-loop-class l = (below : JavaType → JavaType → Bool) → IsOrder l.w below → spec.in_classes l.w below (map class_plain (drop l.class-index l.classes)) l.first ≡ spec.in_classes l.w below (map class_plain l.classes) l.initial.first

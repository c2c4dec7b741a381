use Rattle.std.proofs.Common.{◌≡◌, ◌++◌, Bool, drop}
use Rattle.class_world.specs.declared.world.JavaType.{JavaType}
use Rattle.thrown_exceptions.specs.Thrown as spec
use Rattle.thrown_exceptions.specs.Thrown.{IsOrder}
use Rattle.thrown_exceptions.proofs.catches.uncaught.Given as goal

abbrev pub invariant-loop-exception : goal.invariant-loop-exception
invariant-loop-exception l = (below : JavaType → JavaType → Bool) → IsOrder l.w below → l.left ++ spec.uncaught below l.classes (drop l.exception-index l.raised) ≡ spec.uncaught below l.classes l.raised

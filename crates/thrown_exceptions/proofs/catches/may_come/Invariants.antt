use Rattle.std.proofs.Common.{◌≡◌, Bool, drop}
use Rattle.class_world.specs.declared.world.JavaType.{JavaType}
use Rattle.thrown_exceptions.specs.Thrown as spec
use Rattle.thrown_exceptions.specs.Thrown.{IsOrder}
use Rattle.thrown_exceptions.proofs.catches.may_come.Given as goal

abbrev pub invariant-loop-exception : goal.invariant-loop-exception
invariant-loop-exception l = (below : JavaType → JavaType → Bool) → IsOrder l.w below → spec.may_come below (drop l.exception-index l.raised) l.class ≡ spec.may_come below l.raised l.class

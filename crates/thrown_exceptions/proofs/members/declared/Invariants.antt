use Rattle.std.proofs.Common.{◌≡◌, Bool, drop}
use Rattle.class_world.specs.declared.world.JavaType.{JavaType}
use Rattle.thrown_exceptions.specs.Thrown as spec
use Rattle.thrown_exceptions.specs.Thrown.{IsOrder}
use Rattle.thrown_exceptions.proofs.members.declared.Given as goal

abbrev pub invariant-loop-exception : goal.invariant-loop-exception
invariant-loop-exception l = (below : JavaType → JavaType → Bool) → IsOrder l.w below → spec.declared below l.throws (drop l.exception-index l.raised) l.first ≡ spec.declared below l.throws l.raised l.initial.first

use Rattle.std.proofs.Common.{◌≡◌, Bool, drop}
use Rattle.class_world.specs.declared.world.JavaType.{JavaType}
use Rattle.thrown_exceptions.specs.Thrown as spec
use Rattle.thrown_exceptions.specs.Thrown.{IsOrder}
use Rattle.thrown_exceptions.proofs.classes.is_under.Given as goal

abbrev pub invariant-loop-above : goal.invariant-loop-above
invariant-loop-above l = (below : JavaType → JavaType → Bool) → IsOrder l.w below → spec.is_under below (drop l.above-index l.classes) l.c ≡ spec.is_under below l.classes l.c

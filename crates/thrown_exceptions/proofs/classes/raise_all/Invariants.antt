use Rattle.std.proofs.Common.{◌≡◌, Bool, drop}
use Rattle.class_world.specs.declared.world.JavaType.{JavaType}
use Rattle.thrown_exceptions.specs.Thrown as spec
use Rattle.thrown_exceptions.specs.Thrown.{IsOrder}
use Rattle.thrown_exceptions.proofs.classes.raise_all.Given as goal

abbrev pub invariant-loop-ty : goal.invariant-loop-ty
invariant-loop-ty l = (below : JavaType → JavaType → Bool) → IsOrder l.w below → spec.raise l.node (spec.checked_in below (drop l.ty-index l.types)) l.state ≡ spec.raise l.node (spec.checked_in below l.types) l.fn.state

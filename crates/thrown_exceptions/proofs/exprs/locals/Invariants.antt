use Rattle.std.proofs.Common.{◌≡◌, Bool, drop, map}
use Rattle.class_world.specs.declared.world.JavaType.{JavaType}
use Rattle.java_core.specs.View.{var_plain}
use Rattle.thrown_exceptions.specs.Thrown as spec
use Rattle.thrown_exceptions.specs.Thrown.{IsOrder}
use Rattle.thrown_exceptions.proofs.exprs.locals.Given as goal

abbrev pub invariant-loop-var : goal.invariant-loop-var
invariant-loop-var l = (below : JavaType → JavaType → Bool) → IsOrder l.w below → spec.vars l.w below (map var_plain (drop l.var-index l.vars)) l.state ≡ spec.vars l.w below (map var_plain l.vars) l.fn.state

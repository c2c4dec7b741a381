use Rattle.std.proofs.Common.{◌≡◌, Bool, drop}
use Rattle.std.specs.Option.{option_map}
use Rattle.class_world.specs.declared.world.JavaType.{JavaType}
use Rattle.java_core.specs.View.{maybe, plain, plains}
use Rattle.thrown_exceptions.specs.Thrown as spec
use Rattle.thrown_exceptions.specs.Thrown.{IsOrder}
use Rattle.thrown_exceptions.proofs.Heights.{height, heights, maybe_height}
use Rattle.thrown_exceptions.proofs.exprs.+value.Given as goal

abbrev pub decreases-value : goal.decreases-value
decreases-value l = height (plain l.e.now)

abbrev pub decreases-maybe_value : goal.decreases-maybe_value
decreases-maybe_value l = maybe_height (maybe (option_map plain l.of.now))

abbrev pub decreases-values : goal.decreases-values
decreases-values l = heights (plains l.xs.now)

abbrev pub invariant-values-loop-x : goal.invariant-values-loop-x
invariant-values-loop-x l = (below : JavaType → JavaType → Bool) → IsOrder l.w below → spec.values l.w below (plains (drop l.x-index l.xs)) l.state ≡ spec.values l.w below (plains l.xs) l.fn.state

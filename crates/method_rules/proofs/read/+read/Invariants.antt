use Rattle.std.proofs.Common.{◌≡◌, ℕ, ◌<◌, Some}
use Rattle.std.specs.Prelude.{slice_get}
use Rattle.class_world.specs.declared.world.JavaType.{JavaType}
use Rattle.class_world.proofs.Weights.{weight, weights}
use Rattle.method_rules.specs.Repeats.{IsRead}
use Rattle.method_rules.proofs.read.+read.Given as goal

abbrev pub decreases-is_read : goal.decreases-is_read
decreases-is_read l = weight l.t.now

abbrev pub decreases-are_read : goal.decreases-are_read
decreases-are_read l = weights l.ts.now

abbrev pub invariant-are_read-loop-t : goal.invariant-are_read-loop-t
invariant-are_read-loop-t l = (k : ℕ) (t : JavaType) → k < l.t-index → slice_get l.ts k ≡ Some t → IsRead t

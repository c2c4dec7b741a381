use Rattle.std.proofs.Common.{◌≡◌, ◌+◌, ◌*◌, drop}
use Rattle.std.specs.Option.{option_map}
use Rattle.java_core.specs.View.{maybe, plain, plains}
use Rattle.definite_assignment.specs.Assigned as spec
use Rattle.definite_assignment.proofs.Heights.{height, heights, maybe_height}
use Rattle.definite_assignment.proofs.exprs.+value.Given as goal

abbrev pub decreases-value : goal.decreases-value
decreases-value l = 2 * height (plain l.e.now)

abbrev pub decreases-values : goal.decreases-values
decreases-values l = 2 * heights (plains l.xs.now)

abbrev pub decreases-maybe_value : goal.decreases-maybe_value
decreases-maybe_value l = 2 * maybe_height (maybe (option_map plain l.of.now))

abbrev pub decreases-static_value : goal.decreases-static_value
decreases-static_value l = 2 * maybe_height (maybe (option_map plain l.of.now))

abbrev pub decreases-arms : goal.decreases-arms
decreases-arms l = 2 * (height (plain l.yes.now) + height (plain l.no.now)) + 1

abbrev pub decreases-target : goal.decreases-target
decreases-target l = 2 * height (plain l.e.now) + 1

abbrev pub decreases-test : goal.decreases-test
decreases-test l = 2 * height (plain l.e.now) + 1

abbrev pub decreases-unary_test : goal.decreases-unary_test
decreases-unary_test l = 2 * height (plain l.of.now) + 2

abbrev pub decreases-logic : goal.decreases-logic
decreases-logic l = 2 * height (plain l.right.now) + 2

abbrev pub decreases-test_arms : goal.decreases-test_arms
decreases-test_arms l = 2 * (height (plain l.yes.now) + height (plain l.no.now)) + 2

abbrev pub invariant-values-loop-x : goal.invariant-values-loop-x
invariant-values-loop-x l = spec.values l.w l.home (plains (drop l.x-index l.xs)) l.s ≡ spec.values l.w l.home (plains l.xs) l.fn.s

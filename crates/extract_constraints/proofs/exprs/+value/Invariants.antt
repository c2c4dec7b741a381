use Rattle.std.proofs.Common.{◌≡◌, drop}
use Rattle.std.specs.Option.{option_map}
use Rattle.java_core.specs.View.{maybe, plain, plains}
use Rattle.class_places.proofs.Heights.{height, heights, maybe_height}
use Rattle.extract_constraints.specs.Links as spec
use Rattle.extract_constraints.proofs.Each.{Each}
use Rattle.extract_constraints.proofs.exprs.+value.Given as goal

abbrev pub decreases-value : goal.decreases-value
decreases-value l = height (plain l.e.now)

abbrev pub decreases-maybe_value : goal.decreases-maybe_value
decreases-maybe_value l = maybe_height (maybe (option_map plain l.x.now))

abbrev pub decreases-values : goal.decreases-values
decreases-values l = heights (plains l.xs.now)

abbrev pub invariant-values-loop-x : goal.invariant-values-loop-x
invariant-values-loop-x l =
    Each l.at (λ k a. spec.values k a l.locals (plains (drop l.x-index l.xs)) l.links ≡ spec.values k a l.locals (plains l.xs) l.fn.links)

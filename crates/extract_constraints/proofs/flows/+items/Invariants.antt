use Rattle.std.specs.Option.{option_copied}
use Rattle.std.proofs.Common.{◌≡◌, drop}
use Rattle.java_core.specs.View.{plain, plains}
use Rattle.class_places.proofs.Heights.{height, heights}
use Rattle.extract_constraints.specs.Flows as fl
use Rattle.extract_constraints.proofs.Each.{Each}
use Rattle.extract_constraints.proofs.flows.+items.Given as goal

abbrev pub decreases-initialise : goal.decreases-initialise
decreases-initialise l = height (plain l.x.now)

abbrev pub decreases-initialise_all : goal.decreases-initialise_all
decreases-initialise_all l = heights (plains l.items.now)

abbrev pub invariant-initialise_all-loop-item : goal.invariant-initialise_all-loop-item
invariant-initialise_all-loop-item l = Each l.at (λ k a. fl.initialise_all k a l.locals (plains (drop l.item-index l.items)) (option_copied l.t) l.links ≡ fl.initialise_all k a l.locals (plains l.items) (option_copied l.t) l.fn.links)

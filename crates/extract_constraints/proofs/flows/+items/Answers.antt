use Rattle.std.specs.Option.{option_copied}
use Rattle.std.proofs.Common.{refl}
use Rattle.java_core.specs.View.{plain, plains}
use Rattle.class_places.proofs.Heights.{height, heights}
use Rattle.class_places.proofs.Steps.{lower, step}
use Rattle.type_constraints.proofs.Steps.{ended}
use Rattle.extract_constraints.specs.Told.{where_of}
use Rattle.extract_constraints.specs.Flows as fl
use Rattle.extract_constraints.proofs.flows.+items.Goals as goal

pub initialise_all-initialise-requires : goal.initialise_all-initialise-requires
initialise_all-initialise-requires t c =
    (rw (← c.decreases) (lower (λ x. height (plain x)) (λ xs. heights (plains xs)) (λ x xs. refl) c.args.items.now c.loop-item.item-index c.item-item.result c.loop-item-test.true c.item-item.is), c.requires)

pub initialise_all-loop-item-preserved : goal.initialise_all-loop-item-preserved
initialise_all-loop-item-preserved _ c =
    λ k told.
    let a = where_of c.args.at.now in
    let to = option_copied c.args.t in
    step (λ xs s. fl.initialise_all k a c.args.locals.now (plains xs) to s) (λ x s. fl.initialise k a c.args.locals.now (plain x) to s) (λ x xs s. refl)
    c.args.items.now c.loop-item.item-index c.item-item.result c.loop-item.links c.in_ok-links.links _ c.loop-item-test.true c.item-item.is
    (c.in_ok-links.ensures k told) (c.loop-item.invariant k told)

pub initialise_all-returns : goal.initialise_all-returns
initialise_all-returns _ c =
    λ k told.
    let a = where_of c.args.at.now in
    ended (λ xs s. fl.initialise_all k a c.args.locals.now (plains xs) (option_copied c.args.t) s) (λ s. refl) c.args.items.now c.loop-item.item-index c.loop-item.links _ c.loop-item-test.false (c.loop-item.invariant k told)

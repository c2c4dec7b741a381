use Rattle.std.proofs.Common.{ap}
use Rattle.core_meaning.specs.State.{element_of, with_item}
use Rattle.core_meaning.specs.Outcome.{Gives, with_some}
use Rattle.core_meaning.specs.Variables.{storable}
use Rattle.run_frames.specs.Frames.{valued}
use Rattle.run_frames.specs.Runs.{comes, whole}
use Rattle.run_frames.proofs.Steps.{ok_as}
use Rattle.run_values.proofs.Ways.{item_as}
use Rattle.run_values.proofs.items.store_item.Goals as goal

pub returns : goal.returns
returns c k t =
    let old = c.args.run.now in
    let a = c.args.value in
    let e = item_as c.args.of c.args.at old.state (λ r j. with_some (element_of r old.state) old.state (λ u. storable k u a old.state (λ s. Gives a (with_item r j a s)))) c.find_item-found.result c.find_item-found.ensures in
    ok_as c.store_found.result (whole k c.store_found.new.run) (comes k old) _ _ (ap valued e) (c.store_found.ensures k t)

use Rattle.std.proofs.Common.{ap}
use Rattle.core_meaning.specs.State.{item_of}
use Rattle.core_meaning.specs.Outcome.{Gives, with_some}
use Rattle.run_frames.specs.Frames.{valued}
use Rattle.run_frames.specs.Runs.{comes, whole}
use Rattle.run_frames.proofs.Steps.{ok_as}
use Rattle.run_values.proofs.Ways.{item_as}
use Rattle.run_values.proofs.items.read_item.Goals as goal

pub returns : goal.returns
returns c k =
    let old = c.args.run.now in
    let e = item_as c.args.of c.args.at old.state (λ r k. with_some (item_of r k old.state) old.state (λ a. Gives a old.state)) c.find_item-found.result c.find_item-found.ensures in
    ok_as c.read_found.result (whole k c.read_found.new.run) (comes k old) _ _ (ap valued e) (c.read_found.ensures k)

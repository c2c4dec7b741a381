use Rattle.std.proofs.Common.{ap}
use Rattle.core_meaning.specs.State.{with_item}
use Rattle.core_meaning.specs.Outcome.{Gives}
use Rattle.run_frames.specs.Frames.{valued}
use Rattle.run_frames.specs.Runs.{comes, whole}
use Rattle.run_frames.proofs.Steps.{ok_as}
use Rattle.run_values.proofs.Ways.{store_as}
use Rattle.run_values.proofs.items.store_at.Goals as goal

pub returns : goal.returns
returns c k t =
    let old = c.args.run.now in
    let e = store_as k c.args.array c.args.value old.state (λ s. Gives c.args.value (with_item c.args.array c.args.at c.args.value s)) c.in_ok-may.may (c.in_ok-may.ensures k t) in
    ok_as c.store_tested.result (whole k c.store_tested.new.run) (comes k old) _ _ (ap valued e) (c.store_tested.ensures k)

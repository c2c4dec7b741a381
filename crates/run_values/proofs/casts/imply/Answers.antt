use Rattle.std.proofs.Common.{ap}
use Rattle.core_meaning.specs.Outcome.{misfit}
use Rattle.run_frames.specs.Frames.{valued}
use Rattle.run_frames.specs.Runs.{comes, place_of, whole}
use Rattle.run_frames.proofs.Steps.{ok_as}
use Rattle.run_values.proofs.Ways.{cast_as}
use Rattle.run_values.proofs.casts.imply.Goals as goal

pub returns : goal.returns
returns c k t =
    let old = c.args.run.now in
    let e = cast_as (place_of k old) c.args.ty.now c.args.value old.state misfit c.in_ok-held.held (c.in_ok-held.ensures k t) in
    ok_as c.give_implied.result (whole k c.give_implied.new.run) (comes k old) _ _ (ap valued e) (c.give_implied.ensures k)

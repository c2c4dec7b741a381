use Rattle.std.proofs.Common.{ap}
use Rattle.core_meaning.specs.Outcome.{and_then, misfit}
use Rattle.core_meaning.specs.Statements.{taken}
use Rattle.run_frames.specs.Frames.{a_truth}
use Rattle.run_frames.specs.Runs.{comes, place_of, whole}
use Rattle.run_frames.proofs.Steps.{ok_as}
use Rattle.run_values.proofs.Ways.{cast_as}
use Rattle.run_values.proofs.casts.take_cast.Goals as goal

pub returns : goal.returns
returns c k t =
    let old = c.args.run.now in
    let e = cast_as (place_of k old) c.args.item.now c.args.value old.state misfit c.in_ok-held.held (c.in_ok-held.ensures k t) in
    ok_as c.take_held.result (whole k c.take_held.new.run) (comes k old) _ _ (ap (λ o. a_truth (and_then o (taken c.args.slot c.args.ty.now))) e) (c.take_held.ensures k)

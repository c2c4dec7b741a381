use Rattle.std.proofs.Common.{ap}
use Rattle.run_frames.specs.Frames.{valued}
use Rattle.run_frames.specs.Runs.{comes, place_of, whole}
use Rattle.run_frames.proofs.Steps.{ok_as}
use Rattle.run_values.proofs.Ways.{instance_as}
use Rattle.run_values.proofs.casts.test_instance.Goals as goal

pub returns : goal.returns
returns c k t =
    let old = c.args.run.now in
    let e = instance_as (place_of k old) c.args.ty.now c.args.value old.state c.in_ok-truth.truth (c.in_ok-truth.ensures k t) in
    ok_as c.give_truth.result (whole k c.give_truth.new.run) (comes k old) _ _ (ap valued e) (c.give_truth.ensures k)

use Rattle.run_frames.specs.Runs.{comes, place_of, whole}
use Rattle.run_frames.proofs.Pieces.{next_argument}
use Rattle.run_frames.proofs.Steps.{ok_as}
use Rattle.run_frames.proofs.run.evaluate_from.Goals as goal

pub returns-in-Some : goal.returns-in-Some
returns-in-Some c k =
    let old = c.args.run.now in
    ok_as c.evaluate.result (whole k c.evaluate.new.run) (comes k old) _ _ (next_argument (place_of k old) c.args.done c.args.args.now c.args.at c.in-Some.x.now old.state (rw (← c.as_slice.ensures) c.in-Some.ensures.lookup.3.0) (rw (← c.as_slice.ensures) c.in-Some.ensures.lookup.1)) (c.evaluate.ensures k)

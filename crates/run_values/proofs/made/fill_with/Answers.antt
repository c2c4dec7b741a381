-- The array is there before its items are evaluated.
use Rattle.run_frames.specs.Runs.{whole}
use Rattle.run_frames.proofs.Steps.{ok_as}
use Rattle.run_values.proofs.Ways.{filled_run}
use Rattle.run_values.proofs.made.fill_with.Goals as goal

pub returns : goal.returns
returns c k =
    let after = rw c.len.ensures at c.in_ok-array.ensures.after in
    let e = filled_run k c.args.run.now _ c.args.element c.args.items.now c.in_ok-array.array c.in_ok-array.ensures.number after in
    ok_as c.evaluate_all.result (whole k c.evaluate_all.new.run) (λ o. o) _ _ e (c.evaluate_all.ensures k)

use Rattle.java_core.specs.View.{plains}
use Rattle.run_frames.specs.Runs.{comes, place_of, whole}
use Rattle.run_frames.proofs.Steps.{ok_as}
use Rattle.run_statements.proofs.Parts.{updates_continue, updates_go}
use Rattle.run_statements.proofs.loops.updates.Goals as goal

pub returns-in-Goes : goal.returns-in-Goes
returns-in-Goes c k =
    let old = c.args.run.now in
    ok_as c.evaluate_all.result (whole k c.evaluate_all.new.run) (comes k old) _ _ (updates_go (place_of k old) old.state (plains c.args.step.now) c.args.ending c.in-Goes.is) (c.evaluate_all.ensures k)

pub returns-in-Continues : goal.returns-in-Continues
returns-in-Continues c k =
    let old = c.args.run.now in
    ok_as c.evaluate_all-in-Continues.result (whole k c.evaluate_all-in-Continues.new.run) (comes k old) _ _ (updates_continue (place_of k old) old.state (plains c.args.step.now) c.args.ending c.in-Continues.is) (c.evaluate_all-in-Continues.ensures k)

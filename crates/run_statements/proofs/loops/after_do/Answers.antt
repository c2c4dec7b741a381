use Rattle.java_core.specs.View.{plain}
use Rattle.run_frames.specs.Runs.{comes, place_of, whole}
use Rattle.run_frames.proofs.Steps.{ok_as}
use Rattle.run_statements.proofs.Parts.{do_continues, do_goes}
use Rattle.run_statements.proofs.loops.after_do.Goals as goal

pub returns-in-Goes : goal.returns-in-Goes
returns-in-Goes c k =
    let old = c.args.run.now in
    ok_as c.test_do.result (whole k c.test_do.new.run) (comes k old) _ _ (do_goes (place_of k old) old.state c.args.body.now (plain c.args.test.now) c.args.turns c.args.ending c.in-Goes.is) (c.test_do.ensures k)

pub returns-in-Continues : goal.returns-in-Continues
returns-in-Continues c k =
    let old = c.args.run.now in
    ok_as c.test_do-in-Continues.result (whole k c.test_do-in-Continues.new.run) (comes k old) _ _ (do_continues (place_of k old) old.state c.args.body.now (plain c.args.test.now) c.args.turns c.args.ending c.in-Continues.is) (c.test_do-in-Continues.ensures k)

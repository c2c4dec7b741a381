use Rattle.run_frames.specs.Runs.{comes, place_of, whole}
use Rattle.run_frames.proofs.Steps.{ok_as}
use Rattle.run_statements.proofs.Parts.{test_in}
use Rattle.run_statements.proofs.loops.test_or.Goals as goal

pub returns-in-Some : goal.returns-in-Some
returns-in-Some c k =
    let old = c.args.run.now in
    ok_as c.evaluate.result (whole k c.evaluate.new.run) (comes k old) _ _ (test_in (place_of k old) old.state c.args.test.now c.in-Some.test c.in-Some.is) (c.evaluate.ensures k)

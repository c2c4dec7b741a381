use Rattle.std.proofs.Common.{rules}
use Rattle.java_core.specs.View.{plain}
use Rattle.run_frames.specs.Runs.{comes, place_of, whole}
use Rattle.run_frames.proofs.Steps.{ok_as}
use Rattle.run_statements.proofs.Parts.{test_does}
use Rattle.run_statements.proofs.loops.test_do.Goals as goal

pub returns : goal.returns
returns c k =
    let old = c.args.run.now in
    ok_as c.evaluate.result (whole k c.evaluate.new.run) (comes k old) _ _ (test_does (place_of k old) old.state c.args.body.now (plain c.args.test.now) c.args.turns) (let h = c.evaluate.ensures k in search (rules, h))

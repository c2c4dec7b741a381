use Rattle.java_core.specs.View.{plain}
use Rattle.run_frames.specs.Runs.{comes, place_of, whole}
use Rattle.run_frames.proofs.Steps.{ok_as}
use Rattle.run_statements.proofs.Parts.{body_does}
use Rattle.run_statements.proofs.loops.do_turn.Goals as goal

pub returns : goal.returns
returns c k =
    let old = c.args.run.now in
    ok_as c.execute.result (whole k c.execute.new.run) (comes k old) _ _ (body_does (place_of k old) c.take_step.new.state old.state c.args.body.now _ (plain c.args.test.now) c.args.turns (c.if-not-take_step.ensures {u = tt}) c.get.ensures) (c.execute.ensures k)

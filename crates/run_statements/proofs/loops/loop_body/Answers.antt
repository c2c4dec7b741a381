use Rattle.run_frames.specs.Runs.{comes, place_of, whole}
use Rattle.run_frames.proofs.Steps.{ok_as}
use Rattle.run_statements.proofs.Parts.{turn_goes}
use Rattle.run_statements.proofs.loops.loop_body.Goals as goal

pub returns-in-Some : goal.returns-in-Some
returns-in-Some c k =
    let old = c.args.run.now in
    ok_as c.run_body.result (whole k c.run_body.new.run) (comes k old) _ _ (turn_goes (place_of k old) c.take_step.new.state old.state c.args.of c.args.turns c.args.turn c.in-Some.next c.args.test c.if-not-test.false ((c.in-Some.ensures {u = tt}).1) (c.if-not-take_step.ensures {u = tt})) (c.run_body.ensures k)

use Rattle.run_frames.specs.Runs.{comes, place_of, whole}
use Rattle.run_frames.proofs.Steps.{ok_as}
use Rattle.run_statements.proofs.Parts.{loop_continues, loop_goes}
use Rattle.run_statements.proofs.loops.after_body.Goals as goal

pub returns-in-Goes : goal.returns-in-Goes
returns-in-Goes c k is =
    let old = c.args.run.now in
    ok_as c.turn_or_end.result (whole k c.turn_or_end.new.run) (comes k old) _ _ (loop_goes (place_of k old) old.state c.args.of c.args.turns c.args.turn c.args.ending c.in-Goes.is) (c.turn_or_end.ensures k is)

pub returns-in-Continues : goal.returns-in-Continues
returns-in-Continues c k is =
    let old = c.args.run.now in
    ok_as c.turn_or_end-in-Continues.result (whole k c.turn_or_end-in-Continues.new.run) (comes k old) _ _ (loop_continues (place_of k old) old.state c.args.of c.args.turns c.args.turn c.args.ending c.in-Continues.is) (c.turn_or_end-in-Continues.ensures k is)

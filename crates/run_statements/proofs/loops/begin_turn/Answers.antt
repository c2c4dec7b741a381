use Rattle.std.proofs.Common.{rules}
use Rattle.run_frames.specs.Runs.{comes, place_of, whole}
use Rattle.run_frames.proofs.Steps.{ok_as}
use Rattle.run_statements.proofs.Parts.{test_turns}
use Rattle.run_statements.proofs.loops.begin_turn.Goals as goal

pub returns : goal.returns
returns c k is =
    let old = c.args.run.now in
    let h = c.test_turn.ensures k is in
    ok_as c.test_turn.result (whole k c.test_turn.new.run) (comes k old) _ _ (test_turns (place_of k old) old.state c.args.of c.args.turns c.args.turn) (search (rules, h))

use Rattle.std.proofs.Common.{◌≡◌, ◌+◌, suc, ap, arith}
use Rattle.run_frames.specs.Frames.{ended, looped}
use Rattle.run_frames.specs.Runs.{comes, place_of, whole}
use Rattle.run_frames.proofs.Steps.{ok_as}
use Rattle.run_statements.proofs.loops.begin_loop.Goals as goal

pub returns : goal.returns
returns c k is =
    let old = c.args.run.now in
    let one : old.depth + 1 ≡ suc old.depth = omega arith in
    ok_as c.begin_turn.result (whole k c.begin_turn.new.run) (comes k old) _ _ (ap (λ n. ended (looped (place_of k old) c.args.of n 0 old.state)) one) (c.begin_turn.ensures k is)

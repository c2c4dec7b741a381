use Rattle.std.proofs.Common.{◌≡◌, ◌+◌, suc, ap, arith}
use Rattle.java_core.specs.View.{plain}
use Rattle.core_meaning.specs.Statements.{tested}
use Rattle.run_frames.specs.Frames.{done_looped, ended}
use Rattle.run_frames.specs.Runs.{comes, place_of, whole}
use Rattle.run_frames.proofs.Steps.{ok_as}
use Rattle.run_statements.proofs.loops.begin_do.Goals as goal

pub returns : goal.returns
returns c k =
    let old = c.args.run.now in
    let one : old.depth + 1 ≡ suc old.depth = omega arith in
    ok_as c.do_turn.result (whole k c.do_turn.new.run) (comes k old) _ _
    (ap (λ n. ended (done_looped (place_of k old) c.args.body.now (tested (place_of k old) (plain c.args.test.now)) n old.state)) one) (c.do_turn.ensures k)

use Rattle.run_frames.specs.Runs.{comes, place_of, whole}
use Rattle.run_frames.proofs.Steps.{ok_as}
use Rattle.run_statements.proofs.Parts.{do_repeats}
use Rattle.run_statements.proofs.loops.do_again.Goals as goal

pub returns : goal.returns
returns c k =
    let old = c.args.run.now in
    ok_as c.do_or_end.result (whole k c.do_or_end.new.run) (comes k old) _ _ (do_repeats (place_of k old) old.state c.args.body.now c.args.test.now c.args.turns c.args.holds c.if-not-holds.false) (c.do_or_end.ensures k)

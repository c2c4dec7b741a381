use Rattle.run_frames.specs.Runs.{comes, place_of, whole}
use Rattle.run_frames.proofs.Steps.{ok_as}
use Rattle.run_statements.proofs.Parts.{last_in}
use Rattle.run_statements.proofs.tries.run_last.Goals as goal

pub returns-in-Some : goal.returns-in-Some
returns-in-Some c k =
    let old = c.args.run.now in
    ok_as c.execute.result (whole k c.execute.new.run) (comes k old) _ _ (last_in (place_of k old) old.state c.args.last.now c.in-Some.last _ c.args.saved c.in-Some.is c.get.ensures) (c.execute.ensures k)

use Rattle.run_frames.specs.Runs.{comes, place_of, whole}
use Rattle.run_frames.proofs.Steps.{ok_as}
use Rattle.run_statements.proofs.Rows.{next_group}
use Rattle.run_statements.proofs.switches.groups_run.Goals as goal

pub returns-in-Some : goal.returns-in-Some
returns-in-Some c k =
    let old = c.args.run.now in
    ok_as c.run_group.result (whole k c.run_group.new.run) (comes k old) _ _ (next_group (place_of k old) c.args.groups.now c.args.at c.in-Some.group.now old.state (rw (← c.as_slice.ensures) c.in-Some.ensures.lookup.3.0) (rw (← c.as_slice.ensures) c.in-Some.ensures.lookup.1)) (c.run_group.ensures k)

use Rattle.std.proofs.Common.{rules}
use Rattle.run_frames.specs.Runs.{comes, place_of, whole}
use Rattle.run_frames.proofs.Steps.{ok_as}
use Rattle.run_statements.proofs.Rows.{next_var}
use Rattle.run_statements.proofs.pieces.locals_from.Goals as goal

pub returns-in_ok-push-in-Some : goal.returns-in_ok-push-in-Some
returns-in_ok-push-in-Some c k =
    let old = c.args.run.now in
    let h = c.declare.ensures k in
    ok_as c.declare.result (whole k c.declare.new.run) (comes k old) _ _ (next_var (place_of k old) c.args.vars.now c.args.at c.in-Some.var.now old.state (rw (← c.as_slice.ensures) c.in-Some.ensures.lookup.3.0) (rw (← c.as_slice.ensures) c.in-Some.ensures.lookup.1)) (search (rules, h))

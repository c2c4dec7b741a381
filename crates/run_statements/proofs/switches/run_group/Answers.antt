use Rattle.std.proofs.Common.{rules}
use Rattle.java_core.specs.View.{stmts_plain}
use Rattle.core_meaning.specs.Statements.{stmts}
use Rattle.run_frames.specs.Runs.{comes, place_of, whole}
use Rattle.run_frames.proofs.Steps.{ok_as}
use Rattle.run_statements.proofs.Equations.{ending_ends}
use Rattle.run_statements.proofs.switches.run_group.Goals as goal

pub returns : goal.returns
returns c k =
    let old = c.args.run.now in
    let h = c.execute_from.ensures k in
    ok_as c.execute_from.result (whole k c.execute_from.new.run) (comes k old) _ _ (ending_ends (stmts (place_of k old) (stmts_plain c.args.body.now) old.state) _) (search (rules, h))

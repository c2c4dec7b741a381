use Rattle.std.proofs.Common.{refl}
use Rattle.java_core.specs.View.{stmt_plain}
use Rattle.core_meaning.specs.Statements.{stmt}
use Rattle.run_frames.specs.Runs.{comes, place_of, whole}
use Rattle.run_frames.proofs.Outcomes.{two_ways}
use Rattle.run_frames.proofs.Steps.{ok_as}
use Rattle.run_calls.proofs.calls.run_body.Goals as goal

pub returns : goal.returns
returns c k =
    let old = c.args.run.now in
    ok_as c.execute.result (whole k c.execute.new.run) (comes k old) _ _
    (two_ways (stmt (place_of k old) (stmt_plain c.args.body.now) old.state) _ _ _ _ (λ e s. refl)) (c.execute.ensures k)

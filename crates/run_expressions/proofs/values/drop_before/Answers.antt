use Rattle.std.proofs.Common.{rules}
use Rattle.java_core.specs.View.{plain}
use Rattle.run_frames.specs.Runs.{comes, place_of, whole}
use Rattle.run_frames.proofs.Steps.{ok_as}
use Rattle.run_expressions.proofs.Parts.{dropping}
use Rattle.run_expressions.proofs.values.drop_before.Goals as goal

pub returns : goal.returns
returns c k =
    let old = c.args.run.now in
    let h = c.evaluate.ensures k in
    ok_as c.evaluate.result (whole k c.evaluate.new.run) (comes k old) _ _ (dropping (place_of k old) (plain c.args.x.now) c.args.waits old.state) (search (rules, h))

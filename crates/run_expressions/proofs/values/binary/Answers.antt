use Rattle.std.proofs.Common.{sym, ◌∙◌}
use Rattle.java_core.specs.View.{plain}
use Rattle.run_frames.specs.Runs.{comes, place_of, whole}
use Rattle.run_frames.proofs.Steps.{ok_as}
use Rattle.run_expressions.proofs.Parts.{no_literal}
use Rattle.run_expressions.proofs.values.binary.Goals as goal

pub returns-in-None : goal.returns-in-None
returns-in-None c k =
    let old = c.args.run.now in
    ok_as c.evaluate.result (whole k c.evaluate.new.run) (comes k old) _ _
    (no_literal (place_of k old) c.args.op c.args.kind (plain c.args.left.now) (plain c.args.right.now) old.state (sym c.in-None.is ∙ rw (← c.get.ensures, ← c.get-2.ensures) (c.in_ok-units.ensures {u = tt})))
    (rw (← c.get-in-None.ensures) (c.evaluate.ensures k))

use Rattle.std.proofs.Common.{ap, sym, ◌∙◌}
use Rattle.java_core.specs.View.{plain}
use Rattle.core_meaning.specs.Expressions.{value}
use Rattle.run_frames.specs.Frames.{a_truth, before}
use Rattle.run_frames.specs.Runs.{comes, place_of, whole}
use Rattle.run_frames.proofs.Steps.{ok_as}
use Rattle.run_statements.proofs.Equations.{value_tells}
use Rattle.run_statements.proofs.loops.test_turn.Goals as goal

pub returns-in-While : goal.returns-in-While
returns-in-While c k is =
    let old = c.args.run.now in
    ok_as c.evaluate.result (whole k c.evaluate.new.run) (comes k old) _ _
    (value_tells (value (place_of k old) (plain c.in-While.test.now) old.state) _ ∙ sym (ap (λ x. a_truth (before (place_of k old) x c.args.turn old.state)) c.in-While.is))
    (c.evaluate.ensures k)

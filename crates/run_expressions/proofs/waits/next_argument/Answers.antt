use Rattle.std.proofs.Common.{drop}
use Rattle.java_core.specs.View.{plains}
use Rattle.core_meaning.specs.Expressions.{values}
use Rattle.run_frames.specs.Runs.{comes, place_of, whole}
use Rattle.run_frames.proofs.Steps.{ok_as}
use Rattle.run_expressions.proofs.Parts.{pushed}
use Rattle.run_expressions.proofs.waits.next_argument.Goals as goal

pub returns : goal.returns
returns c k is =
    let old = c.args.run.now in
    ok_as c.evaluate_from.result (whole k c.evaluate_from.new.run) (comes k old) _ _
    (pushed (place_of k old) c.args.done c.push.new.self c.args.value (values (place_of k old) (plains (drop c.args.at c.args.args.now)) old.state) ((c.in_ok-push.ensures {u = tt}).ok))
    (c.evaluate_from.ensures k)

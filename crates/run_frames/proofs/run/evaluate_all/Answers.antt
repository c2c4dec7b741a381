use Rattle.std.proofs.Common.{ap, rules}
use Rattle.core_meaning.specs.Expressions.{values}
use Rattle.java_core.specs.View.{plains}
use Rattle.run_frames.specs.Frames.{all_valued, and_values, on_values}
use Rattle.run_frames.specs.Runs.{comes, place_of, whole}
use Rattle.run_frames.proofs.Outcomes.{then_gives}
use Rattle.run_frames.proofs.Steps.{ok_as}
use Rattle.run_frames.proofs.run.evaluate_all.Goals as goal

pub returns : goal.returns
returns c k =
    let old = c.args.run.now in
    let h = c.evaluate_from.ensures k in
    ok_as c.evaluate_from.result (whole k c.evaluate_from.new.run) (comes k old) _ _ (ap (λ o. and_values (all_valued o) (on_values (place_of k old) c.args.waits)) (then_gives (values (place_of k old) (plains c.args.args.now) old.state))) (search (rules, h))

use Rattle.std.proofs.Common.{ap, ◌∙◌}
use Rattle.java_core.specs.View.{plains}
use Rattle.core_meaning.specs.State.{with_thing}
use Rattle.core_meaning.specs.Code.{new_object}
use Rattle.core_meaning.specs.Expressions.{values}
use Rattle.run_frames.specs.declared.waits.ForValues.TheVariants as for_values
use Rattle.run_frames.specs.Frames.{all_valued, and_values, on_values}
use Rattle.run_frames.specs.Runs.{comes, place_of, whole}
use Rattle.run_frames.proofs.Steps.{ok_as}
use Rattle.run_calls.proofs.calls.create_ready.Goals as goal

pub returns : goal.returns
returns c k known =
    let old = c.args.run.now in
    let p = place_of k old in
    let made = c.in_ok-object.ensures.after ∙ ap (λ t. with_thing t old.state) (c.in_ok-thing.ensures k known) in
    ok_as c.evaluate_all.result (whole k c.evaluate_all.new.run) (comes k old) _ _
    (ap (λ s. and_values (all_valued (values p (plains c.args.args.now) s)) (on_values p (for_values.New c.in_ok-object.object c.args.constructor))) made
    ∙ ap (λ r. and_values (all_valued (values p (plains c.args.args.now) (with_thing (new_object k c.args.class) old.state))) (on_values p (for_values.New r c.args.constructor)))
    c.in_ok-object.ensures.number) (c.evaluate_all.ensures k)

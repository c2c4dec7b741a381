use Rattle.std.proofs.Common.{refl}
use Rattle.java_core.specs.View.{plains}
use Rattle.core_meaning.specs.Outcome.{Gives, and_then}
use Rattle.core_meaning.specs.Expressions.{called_static, values}
use Rattle.run_frames.specs.declared.focus.Answer.TheVariants as an
use Rattle.run_frames.specs.declared.waits.ForNothing.TheVariants as for_nothing
use Rattle.run_frames.specs.Runs.{comes, place_of, whole}
use Rattle.run_frames.proofs.Outcomes.{two_ways}
use Rattle.run_frames.proofs.Steps.{ok_as}
use Rattle.run_expressions.proofs.Parts.{static_call, static_use}
use Rattle.run_expressions.proofs.values.static_call.Goals as goal

pub returns-in-None : goal.returns-in-None
returns-in-None c k =
    let old = c.args.run.now in
    ok_as c.evaluate_all.result (whole k c.evaluate_all.new.run) (comes k old) _ _ (static_call (place_of k old) c.args.before.now c.args.method c.args.args.now old.state c.in-None.is) (c.evaluate_all.ensures k)

pub returns-in-Some : goal.returns-in-Some
returns-in-Some c k =
    let old = c.args.run.now in
    ok_as c.drop_before.result (whole k c.drop_before.new.run) (comes k old) _ _
    (static_use (place_of k old) c.args.before.now c.in-Some.x (for_nothing.StaticArgs c.args.method c.args.args) (λ s. and_then (values (place_of k old) (plains c.args.args.now) s) (called_static (place_of k old) c.args.method)) (λ a s. Gives (an.Value a) s) old.state c.in-Some.is (λ s. two_ways (values (place_of k old) (plains c.args.args.now) s) _ _ _ _ (λ ys s. refl)))
    (c.drop_before.ensures k)

use Rattle.std.proofs.Common.{refl, sym, ap, ◌∙◌}
use Rattle.java_core.specs.View.{plains}
use Rattle.core_meaning.specs.State.{with_thing}
use Rattle.core_meaning.specs.Code.{new_object}
use Rattle.core_meaning.specs.Expressions.{created, values}
use Rattle.run_frames.specs.Frames.{valued}
use Rattle.run_frames.specs.Runs.{comes, place_of, whole}
use Rattle.run_frames.proofs.Steps.{ok_as}
use Rattle.run_frames.proofs.Outcomes.{two_ways}
use Rattle.run_calls.proofs.calls.create.Goals as goal

pub returns-in-Some : goal.returns-in-Some
returns-in-Some c k known =
    let old = c.args.run.now in
    let p = place_of k old in
    let args = values p (plains c.args.args.now) in
    ok_as c.initialise_for.result (whole k c.initialise_for.new.run) (comes k old) _ _
    (two_ways (p.initialise c.in-Some.class old.state) _ _ _ _ (λ u s. two_ways (args (with_thing (new_object k c.in-Some.class) s)) _ _ _ _ (λ ys t. refl))
    ∙ ap (λ m. valued (created p m c.args.constructor args old.state)) (sym c.in-Some.is)) (c.initialise_for.ensures k)

use Rattle.std.proofs.Common.{refl, sym, ap, ◌∙◌}
use Rattle.run_frames.specs.Frames.{nothing}
use Rattle.run_frames.specs.Runs.{comes, place_of, whole}
use Rattle.run_frames.proofs.Steps.{ok_as}
use Rattle.run_frames.proofs.Outcomes.{two_ways}
use Rattle.run_calls.specs.Opened.{given_behind}
use Rattle.run_calls.proofs.starts.initialise_above.Goals as goal

pub returns-in-Some : goal.returns-in-Some
returns-in-Some c k known =
    let old = c.args.run.now in
    let p = place_of k old in
    ok_as c.initialise_for.result (whole k c.initialise_for.new.run) (comes k old) _ _
    (two_ways (p.initialise c.in-Some.above old.state) _ _ _ _ (λ u s. refl)
    ∙ ap (λ m. nothing (given_behind p m c.args.class old.state)) (sym c.in-Some.is ∙ c.superclass.ensures k known)) (c.initialise_for.ensures k)

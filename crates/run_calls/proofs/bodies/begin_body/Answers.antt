use Rattle.std.proofs.Common.{[], refl, sym, ap, ◌∙◌}
use Rattle.core_meaning.specs.Statements.{begun}
use Rattle.core_meaning.specs.Calls.{body}
use Rattle.run_frames.specs.Frames.{valued}
use Rattle.run_frames.specs.Runs.{comes, place_of, whole}
use Rattle.run_frames.proofs.Steps.{ok_as}
use Rattle.run_frames.proofs.Outcomes.{two_ways}
use Rattle.running_code.specs.Bodies.{body_plain}
use Rattle.run_calls.proofs.bodies.begin_body.Goals as goal

pub returns-in-Default : goal.returns-in-Default
returns-in-Default c k =
    let old = c.args.run.now in
    ok_as c.begin_first.result (whole k c.begin_first.new.run) (comes k old) _ _
    (two_ways (begun (place_of k old) c.in-Default.first [] old.state) _ _ _ _ (λ f s. refl)
    ∙ ap (λ b. valued (body (place_of k old) (body_plain b) old.state)) (sym c.in-Default.is)) (c.begin_first.ensures k)

use Rattle.std.proofs.Common.{[], refl, sym, ap, ◌∙◌}
use Rattle.java_core.specs.View.{stmt_plain}
use Rattle.core_meaning.specs.Code.{Written}
use Rattle.core_meaning.specs.Statements.{begun}
use Rattle.core_meaning.specs.Calls.{body}
use Rattle.run_frames.specs.Frames.{valued}
use Rattle.run_frames.specs.Runs.{comes, place_of, whole}
use Rattle.run_frames.proofs.Steps.{ok_as}
use Rattle.run_frames.proofs.Outcomes.{two_ways}
use Rattle.run_calls.proofs.bodies.begin_written.Goals as goal

pub returns-in-Some : goal.returns-in-Some
returns-in-Some c k =
    let old = c.args.run.now in
    ok_as c.begin_first.result (whole k c.begin_first.new.run) (comes k old) _ _
    (two_ways (begun (place_of k old) c.in-Some.first [] old.state) _ _ _ _ (λ f s. refl)
    ∙ ap (λ m. valued (body (place_of k old) (Written m (stmt_plain c.args.written.now)) old.state)) (sym c.in-Some.is)) (c.begin_first.ensures k)

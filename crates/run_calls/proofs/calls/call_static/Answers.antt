use Rattle.std.proofs.Common.{sym, ◌∙◌}
use Rattle.run_frames.specs.Runs.{comes, place_of, whole}
use Rattle.run_frames.proofs.Steps.{ok_as}
use Rattle.run_calls.proofs.Invoking.{static_called}
use Rattle.run_calls.proofs.calls.call_static.Goals as goal

pub returns-in-Some : goal.returns-in-Some
returns-in-Some c k known =
    let old = c.args.run.now in
    ok_as c.initialise_for.result (whole k c.initialise_for.new.run) (comes k old) _ _
    (static_called (place_of k old) c.args.method c.args.args old.state c.in-Some.owner (sym (c.method_owner.ensures k known) ∙ c.in-Some.is)) (c.initialise_for.ensures k)

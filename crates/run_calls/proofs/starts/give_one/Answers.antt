use Rattle.std.proofs.Common.{sym, ◌∙◌}
use Rattle.run_frames.specs.Runs.{comes, place_of, whole}
use Rattle.run_frames.proofs.Steps.{ok_as}
use Rattle.run_calls.proofs.Fields.{given_there}
use Rattle.run_calls.proofs.starts.give_one.Goals as goal

pub returns-in-Some : goal.returns-in-Some
returns-in-Some c k known =
    let old = c.args.run.now in
    ok_as c.evaluate.result (whole k c.evaluate.new.run) (comes k old) _ _
    (given_there (place_of k old) c.args.field.now c.in-Some.x old.state (sym (c.has_initialiser.ensures k known) ∙ c.if-not-has_initialiser.false) c.in-Some.is) (c.evaluate.ensures k)

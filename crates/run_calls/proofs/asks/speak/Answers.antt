use Rattle.std.proofs.Common.{[], sym, ap}
use Rattle.run_frames.specs.Frames.{valued}
use Rattle.run_frames.specs.Runs.{comes, place_of, whole}
use Rattle.run_frames.proofs.Steps.{ok_as}
use Rattle.run_calls.proofs.Args.{speaks_others}
use Rattle.run_calls.proofs.asks.speak.Goals as goal

pub returns-in_default : goal.returns-in_default
returns-in_default c k known =
    let old = c.args.run.now in
    ok_as c.perform_alone.result (whole k c.perform_alone.new.run) (comes k old) _ _
    (ap valued (sym (speaks_others (place_of k old) c.args.member c.args.this [] old.state c.in_default.not-ObjectToString c.in_default.not-ThrowableToString)))
    (c.perform_alone.ensures k)

use Rattle.std.proofs.Common.{sym, ◌∙◌}
use Rattle.run_frames.specs.Runs.{comes, whole}
use Rattle.run_frames.proofs.Steps.{ok_as}
use Rattle.run_calls.proofs.Units.{reference_refused}
use Rattle.run_calls.proofs.asks.object_text.Goals as goal

pub returns-in-None : goal.returns-in-None
returns-in-None c k known =
    let old = c.args.run.now in
    ok_as c.refuse.result (whole k c.refuse.new.run) (comes k old) _ _
    (sym (reference_refused c.args.this old.state _ (sym c.object_in.ensures ∙ c.in-None.is))) (c.refuse.ensures k)

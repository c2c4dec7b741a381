use Rattle.std.proofs.Common.{sym, ap, ◌∙◌}
use Rattle.std.specs.Option.{option_copied}
use Rattle.run_frames.specs.Runs.{comes, whole}
use Rattle.run_frames.proofs.Steps.{ok_as}
use Rattle.run_calls.proofs.Units.{units_refused}
use Rattle.run_calls.proofs.strings.hash.Goals as goal

pub returns-in-None : goal.returns-in-None
returns-in-None c k =
    let old = c.args.run.now in
    ok_as c.refuse.result (whole k c.refuse.new.run) (comes k old) _ _
    (sym (units_refused c.args.this old.state _ (sym c.units_in.ensures ∙ ap option_copied c.in-None.is))) (c.refuse.ensures k)

use Rattle.std.proofs.Common.{sym, ap, ◌∙◌}
use Rattle.std.specs.Option.{option_copied}
use Rattle.run_frames.specs.Frames.{valued}
use Rattle.run_frames.specs.Runs.{comes, whole}
use Rattle.run_frames.proofs.Steps.{ok_as}
use Rattle.run_calls.proofs.Units.{units_read, units_refused}
use Rattle.run_calls.proofs.strings.compare.Goals as goal

pub returns-in-None : goal.returns-in-None
returns-in-None c k =
    let old = c.args.run.now in
    ok_as c.refuse.result (whole k c.refuse.new.run) (comes k old) _ _
    (sym (units_refused c.args.this old.state _ (sym c.units_in.ensures ∙ ap option_copied c.in-None.is))) (c.refuse.ensures k)

pub returns-in-None-units_in : goal.returns-in-None-units_in
returns-in-None-units_in c k =
    let old = c.args.run.now in
    ok_as c.refuse-in-None-units_in.result (whole k c.refuse-in-None-units_in.new.run) (comes k old) _ _
    (sym (ap valued (units_read c.args.this c.in-Some.units.now old.state _ (sym c.units_in.ensures ∙ ap option_copied c.in-Some.is))
    ∙ units_refused c.args.other old.state _ (sym c.units_in-in-Some.ensures ∙ ap option_copied c.in-None-units_in.is)))
    (c.refuse-in-None-units_in.ensures k)

use Rattle.std.proofs.Common.{sym, ap, ◌∙◌}
use Rattle.std.specs.Option.{option_copied}
use Rattle.run_frames.specs.Frames.{valued}
use Rattle.run_frames.specs.Runs.{comes, whole}
use Rattle.run_frames.proofs.Steps.{ok_as}
use Rattle.run_calls.proofs.Units.{units_read, units_refused}
use Rattle.run_calls.proofs.strings.substring_between.Goals as goal

pub returns-in-None : goal.returns-in-None
returns-in-None c k =
    let old = c.args.run.now in
    ok_as c.refuse.result (whole k c.refuse.new.run) (comes k old) _ _
    (sym (units_refused c.args.this old.state _ (sym c.units_in.ensures ∙ ap option_copied c.in-None.is))) (c.refuse.ensures k)

pub returns-in_ok-part-in-Some : goal.returns-in_ok-part-in-Some
returns-in_ok-part-in-Some c k =
    let old = c.args.run.now in
    ok_as c.give_part.result (whole k c.give_part.new.run) (comes k old) _ _
    (ap valued (c.in_ok-part-in-Some.ensures old.state
    ∙ sym (units_read c.args.this c.in-Some.units.now old.state _ (sym c.units_in.ensures ∙ ap option_copied c.in-Some.is)))) (c.give_part.ensures k)

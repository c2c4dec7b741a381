use Rattle.std.proofs.Common.{ap, map, rules, ◌∙◌}
use Rattle.java_core.specs.View.{group_plain, group_row}
use Rattle.core_meaning.specs.Statements.{selector}
use Rattle.run_frames.specs.Runs.{comes, place_of, whole}
use Rattle.run_frames.proofs.Steps.{ok_as}
use Rattle.run_statements.proofs.Parts.{on_number}
use Rattle.run_statements.proofs.switches.switch.Goals as goal

pub returns-in-Int : goal.returns-in-Int
returns-in-Int c k =
    let old = c.args.run.now in
    ok_as c.switch_on.result (whole k c.switch_on.new.run) (comes k old) _ _
    (on_number (place_of k old) old.state c.args.value _ c.in-Int.number (group_row (map group_plain c.args.groups.now)) (ap selector c.in-Int.is) (search rules)) (c.switch_on.ensures k)

pub returns-in-Char : goal.returns-in-Char
returns-in-Char c k =
    let old = c.args.run.now in
    ok_as c.switch_on-in-Char.result (whole k c.switch_on-in-Char.new.run) (comes k old) _ _
    (on_number (place_of k old) old.state c.args.value _ _ (group_row (map group_plain c.args.groups.now)) (ap selector c.in-Char.is) (search rules ∙ c.from.ensures)) (c.switch_on-in-Char.ensures k)

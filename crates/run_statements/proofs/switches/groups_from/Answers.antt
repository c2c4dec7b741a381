use Rattle.std.proofs.Common.{rules}
use Rattle.core_meaning.specs.Statements.{chosen}
use Rattle.run_frames.specs.Runs.{comes, place_of, whole}
use Rattle.run_frames.proofs.Steps.{ok_as}
use Rattle.run_statements.proofs.Rows.{from_this}
use Rattle.run_statements.proofs.switches.groups_from.Goals as goal

pub returns-then-is_chosen : goal.returns-then-is_chosen
returns-then-is_chosen c k =
    let old = c.args.run.now in
    ok_as c.run_group.result (whole k c.run_group.new.run) (comes k old) _ _ (from_this (place_of k old) (chosen c.args.by_label c.args.label) c.args.groups.now c.args.at c.in-Some.group.now old.state (rw (← c.as_slice.ensures) c.in-Some.ensures.lookup.3.0) (rw (← c.as_slice.ensures) c.in-Some.ensures.lookup.1) (let h = c.if-is_chosen.ensures {u = tt} in search (rules, h))) (c.run_group.ensures k)

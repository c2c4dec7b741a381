use Rattle.std.proofs.Common.{sym, ◌∙◌}
use Rattle.run_frames.specs.Runs.{comes, place_of, whole}
use Rattle.run_frames.proofs.Steps.{ok_as}
use Rattle.run_values.proofs.Ways.{store_constant, store_owned}
use Rattle.run_values.proofs.variables.store_ready.Goals as goal

pub returns-then-is_constant : goal.returns-then-is_constant
returns-then-is_constant c k told =
    let old = c.args.run.now in
    let e = store_constant (place_of k old) c.args.field old.state c.args.value (sym c.if-is_constant.true ∙ c.is_constant.ensures k told) in
    ok_as c.store_static.result (whole k c.store_static.new.run) (comes k old) _ _ e (c.store_static.ensures k)

pub returns-in-Some : goal.returns-in-Some
returns-in-Some c k told =
    let old = c.args.run.now in
    let e = store_owned (place_of k old) c.args.field old.state c.args.value c.in-Some.class (sym c.if-is_constant.false ∙ c.is_constant.ensures k told) (c.in-Some.ensures k told) in
    ok_as c.initialise_for.result (whole k c.initialise_for.new.run) (comes k old) _ _ e (c.initialise_for.ensures k)

use Rattle.std.proofs.Common.{refl}
use Rattle.run_frames.specs.declared.waits.ForNothing.TheVariants as for_nothing
use Rattle.run_frames.specs.Runs.{comes, place_of, whole}
use Rattle.run_frames.proofs.Steps.{ok_as}
use Rattle.run_expressions.proofs.Parts.{static_use}
use Rattle.run_expressions.proofs.values.static_field.Goals as goal

pub returns-in-Some : goal.returns-in-Some
returns-in-Some c k is =
    let old = c.args.run.now in
    ok_as c.drop_before.result (whole k c.drop_before.new.run) (comes k old) _ _ (static_use (place_of k old) c.args.before.now c.in-Some.x (for_nothing.StaticField c.args.field) _ _ old.state c.in-Some.is (λ s. refl)) (c.drop_before.ensures k)

use Rattle.std.proofs.Common.{ap, sym}
use Rattle.core_meaning.specs.declared.values.Variable.TheVariants as var
use Rattle.core_meaning.specs.Variables.{store}
use Rattle.run_frames.specs.Frames.{valued}
use Rattle.run_frames.specs.Runs.{comes, place_of, whole}
use Rattle.run_frames.proofs.Steps.{ok_as}
use Rattle.run_values.proofs.variables.store_field.Goals as goal

pub returns-in-Ref : goal.returns-in-Ref
returns-in-Ref c k =
    let old = c.args.run.now in
    ok_as c.set_held.result (whole k c.set_held.new.run) (comes k old) _ _ (ap (λ of. valued (store (place_of k old) (var.Field of c.args.field) c.args.value old.state)) (sym c.in-Ref.is)) (c.set_held.ensures k)

use Rattle.std.proofs.Common.{ap, sym, ◌∙◌}
use Rattle.std.specs.Prelude.{slice_get}
use Rattle.class_world.specs.declared.world.World.{World}
use Rattle.unchecked_ops.specs.Raw as spec
use Rattle.unchecked_ops.proofs.Oks.{ok_as}
use Rattle.unchecked_ops.proofs.raw.params_on.Goals as goal

pub returns-in-Some : goal.returns-in-Some
returns-in-Some c =
    λ f d. ok_as c.method_params.result _ _
    (ap (spec.params_on f c.args.t.now) (c.in-Some.ensures.value ∙ ap (λ (w : World). slice_get w.methods c.args.method) (sym d.world)))
    (c.method_params.ensures f d)

use Rattle.std.proofs.Common.{ap, sym, ◌∙◌}
use Rattle.std.specs.Option.{option_map}
use Rattle.std.specs.Prelude.{slice_get}
use Rattle.class_world.specs.declared.world.World.{World}
use Rattle.java_core.specs.View.{plain}
use Rattle.unchecked_ops.specs.Operations as spec
use Rattle.unchecked_ops.proofs.Arms.{whole}
use Rattle.unchecked_ops.proofs.operations.value_ops.Goals as goal

pub returns-in-None : goal.returns-in-None
returns-in-None c =
    λ f d u m. whole c.option_ops.result c.args.out.now c.option_ops.new.out _ _ (ap (λ k. spec.value_ops f u c.args.above.now (spec.field_type k) (option_map plain c.args.x.now.init)) (c.in-None.ensures.value ∙ ap (λ (w : World). slice_get w.fields c.args.x.now.field) (sym d.world))) (c.option_ops.ensures f d u m)

pub returns-in-Some : goal.returns-in-Some
returns-in-Some c =
    λ f d u m. whole c.init_ops.result c.args.out.now c.init_ops.new.out _ _ (ap (λ k. spec.value_ops f u c.args.above.now (spec.field_type k) (option_map plain c.args.x.now.init)) (c.in-Some.ensures.value ∙ ap (λ (w : World). slice_get w.fields c.args.x.now.field) (sym d.world))) (c.init_ops.ensures f d u m)

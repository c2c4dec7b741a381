use Rattle.std.proofs.Common.{ap, sym, ◌∙◌}
use Rattle.std.specs.Option.{option_map}
use Rattle.std.specs.Prelude.{slice_get}
use Rattle.class_world.specs.declared.world.World.{World}
use Rattle.java_core.specs.View.{stmt_plain}
use Rattle.unchecked_ops.specs.Operations as spec
use Rattle.unchecked_ops.proofs.Arms.{whole}
use Rattle.unchecked_ops.proofs.operations.body_ops.Goals as goal

pub returns-in-None : goal.returns-in-None
returns-in-None c =
    λ f d u m. whole c.given_ops.result c.args.out.now c.given_ops.new.out _ _ (ap (λ k. spec.body_ops f u c.args.own.now c.args.above.now (spec.result_of k) (option_map stmt_plain c.args.body.now)) (c.in-None.ensures.value ∙ ap (λ (w : World). slice_get w.methods c.args.method) (sym d.world))) (c.given_ops.ensures f d u m)

pub returns-in-Some : goal.returns-in-Some
returns-in-Some c =
    λ f d u m. whole c.given_ops-in-Some.result c.args.out.now c.given_ops-in-Some.new.out _ _ (ap (λ k. spec.body_ops f u c.args.own.now c.args.above.now (spec.result_of k) (option_map stmt_plain c.args.body.now)) (c.in-Some.ensures.value ∙ ap (λ (w : World). slice_get w.methods c.args.method) (sym d.world))) (c.given_ops-in-Some.ensures f d u m)

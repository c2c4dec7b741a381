use Rattle.class_world.specs.declared.access.Declared.TheVariants as declared
use Rattle.member_uses.proofs.Steps.{filter_step}
use Rattle.member_uses.proofs.methods.accessible.Goals as goal

pub loop-method-preserved : goal.loop-method-preserved
loop-method-preserved c = λ f h.
    filter_step (λ k. f.sees c.args.place.now.class (declared.Method k)) c.args.methods.now c.loop-method.method-index c.loop-method.done _ _
    c.loop-method-test.true (c.in_ok-add_accessible.ensures f h) (c.loop-method.invariant f h)

use Rattle.std.proofs.Common.{Some, ap, sym, ◌∙◌}
use Rattle.std.specs.Option.{option_map}
use Rattle.java_core.specs.View.{plain}
use Rattle.unchecked_ops.specs.Operations as spec
use Rattle.unchecked_ops.proofs.Arms.{whole}
use Rattle.unchecked_ops.proofs.stmts.init_ops.Goals as goal

pub returns-in-Some : goal.returns-in-Some
returns-in-Some c =
    λ f d u m. whole c.ops.result c.args.out.now c.ops.new.out _ _
    (ap (λ b. spec.ops f u c.args.above.now b (plain c.in-Some.x)) (c.is_for-unchecked.ensures f d) ∙ sym (ap (λ o. spec.value_ops f u c.args.above.now (Some c.args.ty.now) (option_map plain o)) c.in-Some.is))
    (c.ops.ensures f d u m)

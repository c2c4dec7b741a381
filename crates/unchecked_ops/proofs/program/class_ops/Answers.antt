use Rattle.std.proofs.Common.{map, ap, sym, ◌∙◌}
use Rattle.std.specs.Prelude.{slice_get}
use Rattle.class_world.specs.declared.world.World.{World}
use Rattle.java_core.specs.View.{member_plain}
use Rattle.member_uses.specs.Targets.{superclass}
use Rattle.unchecked_ops.specs.Operations.{member_ops}
use Rattle.unchecked_ops.specs.Programs as spec
use Rattle.unchecked_ops.proofs.Arms.{pair, whole}
use Rattle.unchecked_ops.proofs.program.class_ops.Goals as goal

pub returns : goal.returns
returns c =
    λ f d u m.
    let n = c.args.class.now.number in
    whole c.unchecked_of_class.result c.args.out.now c.unchecked_of_class.new.out _ _
    (pair (λ own above. member_ops f u own above (map member_plain c.args.class.now.members)) _ _ _ _
    (c.in_ok-own.ensures ∙ ap (λ (w : World). spec.this_type n (slice_get w.types n)) (sym d.world))
    (c.in_ok-above.ensures ∙ ap (λ (w : World). spec.super_type (superclass w n)) (sym d.world)))
    (c.unchecked_of_class.ensures f d u m)

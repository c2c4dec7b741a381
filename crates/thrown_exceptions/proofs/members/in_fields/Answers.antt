use Rattle.std.proofs.Common.{map, refl}
use Rattle.java_core.specs.View.{field_plain}
use Rattle.thrown_exceptions.specs.Thrown as spec
use Rattle.thrown_exceptions.proofs.Steps.{step}
use Rattle.thrown_exceptions.proofs.members.in_fields.Goals as goal

pub loop-field-preserved : goal.loop-field-preserved
loop-field-preserved c =
    λ below is. step (λ xs s. spec.in_fields c.args.w.now below (map field_plain xs) s) (λ x s. spec.in_field c.args.w.now below (field_plain x) s) (λ x xs s. refl)
    c.args.fields.now c.loop-field.field-index c.field-item.result c.loop-field.first c.in_ok-first.first _ c.loop-field-test.true c.field-item.is
    (c.in_ok-first.ensures below is) (c.loop-field.invariant below is)

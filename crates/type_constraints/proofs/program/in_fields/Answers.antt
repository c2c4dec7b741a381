use Rattle.std.proofs.Common.{map, refl}
use Rattle.std.specs.Option.{option_map}
use Rattle.java_core.specs.View.{field_plain, plain}
use Rattle.thrown_exceptions.proofs.Steps.{step}
use Rattle.type_constraints.specs.Asked.{asked}
use Rattle.type_constraints.specs.Constraints as co
use Rattle.type_constraints.proofs.Steps.{ended}
use Rattle.type_constraints.proofs.program.in_fields.Goals as goal

pub loop-field-preserved : goal.loop-field-preserved
loop-field-preserved c =
    λ f are ts ties.
    let a = asked c.args.at.now f ts in
    step (λ xs s. co.in_fields a (map field_plain xs) s) (λ x s. co.in_field a x.field (option_map plain x.init) s) (λ x xs s. refl)
    c.args.fields.now c.loop-field.field-index c.field-item.result c.loop-field.first c.in_ok-first.first _ c.loop-field-test.true c.field-item.is
    (c.in_ok-first.ensures f are ts ties) (c.loop-field.invariant f are ts ties)

pub returns : goal.returns
returns c =
    λ f are ts ties.
    let a = asked c.args.at.now f ts in
    ended (λ xs s. co.in_fields a (map field_plain xs) s) (λ s. refl) c.args.fields.now c.loop-field.field-index c.loop-field.first _ c.loop-field-test.false (c.loop-field.invariant f are ts ties)

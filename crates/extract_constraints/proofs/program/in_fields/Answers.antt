use Rattle.std.specs.Option.{option_map}
use Rattle.std.proofs.Common.{map, refl}
use Rattle.java_core.specs.View.{field_plain, plain}
use Rattle.class_places.proofs.Steps.{step}
use Rattle.type_constraints.proofs.Steps.{ended}
use Rattle.extract_constraints.specs.Told.{where_of}
use Rattle.extract_constraints.specs.Links as li
use Rattle.extract_constraints.proofs.program.in_fields.Goals as goal

pub loop-field-preserved : goal.loop-field-preserved
loop-field-preserved c =
    λ k told.
    let a = where_of c.args.at.now in
    step (λ xs s. li.in_fields k a (map field_plain xs) s) (λ x s. li.in_field k a x.field (option_map plain x.init) s) (λ x xs s. refl)
    c.args.fields.now c.loop-field.field-index c.field-item.result c.loop-field.links c.in_ok-links.links _ c.loop-field-test.true c.field-item.is
    (c.in_ok-links.ensures k told) (c.loop-field.invariant k told)

pub returns : goal.returns
returns c =
    λ k told.
    let a = where_of c.args.at.now in
    ended (λ xs s. li.in_fields k a (map field_plain xs) s) (λ s. refl) c.args.fields.now c.loop-field.field-index c.loop-field.links _ c.loop-field-test.false (c.loop-field.invariant k told)

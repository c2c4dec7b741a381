use Rattle.std.proofs.Common.{map, refl}
use Rattle.java_core.specs.View.{type_row, written}
use Rattle.class_places.proofs.Steps.{lower}
use Rattle.class_places.proofs.Heights.{type_height, types_height}
use Rattle.class_places.proofs.types.+in_type.Goals as goal

pub in_types-in_type-requires : goal.in_types-in_type-requires
in_types-in_type-requires t c =
    (rw (← c.decreases) (lower (λ x. type_height (written x)) (λ xs. types_height (type_row (map written xs))) (λ x xs. refl) c.args.types.now c.loop-ty.ty-index c.ty-item.result c.loop-ty-test.true c.ty-item.is), tt)

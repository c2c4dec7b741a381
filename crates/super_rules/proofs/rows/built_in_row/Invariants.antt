use Rattle.std.proofs.Common.{◌⊎◌, map, take}
use Rattle.class_world.specs.declared.world.JavaType.{JavaType}
use Rattle.super_rules.specs.Looks.{IsRow}
use Rattle.super_rules.proofs.Edged.{OneOf, IsClassOf}
use Rattle.super_rules.proofs.rows.built_in_row.Given as goal

abbrev pub invariant-loop-ty : goal.invariant-loop-ty
invariant-loop-ty l = IsRow l.row (λ g. ⊥ ⊎ OneOf IsClassOf (map (λ (x : JavaType). x) (take l.ty-index l.ty-items)) g)

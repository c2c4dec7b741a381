use Rattle.std.proofs.Common.{◌≡◌, ◌++◌, map, drop}
use Rattle.class_world.specs.declared.world.TypeInfo.{TypeInfo}
use Rattle.running_code.specs.Types as spec
use Rattle.running_code.proofs.types.all_held.Given as goal

abbrev pub invariant-loop-info : goal.invariant-loop-info
invariant-loop-info l = l.own ++ map (λ (i : TypeInfo). spec.own_held l.w i.fields) (drop l.info-index l.w.types) ≡ map (λ (i : TypeInfo). spec.own_held l.w i.fields) l.w.types

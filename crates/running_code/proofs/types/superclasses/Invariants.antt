use Rattle.std.proofs.Common.{◌≡◌, ◌++◌, Some, map, drop}
use Rattle.class_world.specs.declared.world.TypeInfo.{TypeInfo}
use Rattle.core_meaning.specs.Code as code
use Rattle.running_code.proofs.types.superclasses.Given as goal

abbrev pub invariant-loop-info : goal.invariant-loop-info
invariant-loop-info l =
    l.supers ++ map (λ (i : TypeInfo). code.superclass_of l.w (Some i)) (drop l.info-index l.w.types) ≡ map (λ (i : TypeInfo). code.superclass_of l.w (Some i)) l.w.types

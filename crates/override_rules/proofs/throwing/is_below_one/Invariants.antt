use Rattle.class_world.specs.declared.world.JavaType.{JavaType}
use Rattle.class_world.specs.Subtypes.{Subtype}
use Rattle.override_rules.proofs.Listed.{IsBefore}
use Rattle.override_rules.proofs.throwing.is_below_one.Given as goal

abbrev pub invariant-loop-f : goal.invariant-loop-f
invariant-loop-f l = (f : JavaType) → IsBefore l.upper l.f-index f → Subtype l.w l.e f → ⊥

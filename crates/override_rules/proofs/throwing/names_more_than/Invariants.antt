use Rattle.std.specs.List.{Contains}
use Rattle.class_world.specs.declared.world.JavaType.{JavaType}
use Rattle.class_world.specs.Subtypes.{Subtype}
use Rattle.override_rules.specs.Rules.{IsUncheckedException}
use Rattle.override_rules.proofs.Listed.{IsBefore}
use Rattle.override_rules.proofs.throwing.names_more_than.Given as goal

abbrev pub invariant-loop-e : goal.invariant-loop-e
invariant-loop-e l = (e : JavaType) → IsBefore l.lower l.e-index e → (IsUncheckedException l.w e → ⊥) → ((f : JavaType) → Contains l.upper f → Subtype l.w e f → ⊥) → ⊥

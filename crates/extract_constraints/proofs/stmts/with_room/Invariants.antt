use Rattle.std.proofs.Common.{◌≡◌, length}
use Rattle.class_world.specs.declared.world.JavaType.{JavaType}
use Rattle.extract_constraints.specs.Links as li
use Rattle.extract_constraints.proofs.stmts.with_room.Given as goal

abbrev pub invariant-loop : goal.invariant-loop
invariant-loop l = (length l.locals ≡ l.counter) × ((t : JavaType) → li.with_local l.locals l.slot t ≡ li.with_local l.initial.locals l.slot t)

use Rattle.std.proofs.Common.{◌≡◌}
use Rattle.written_types.specs.Types as spec
use Rattle.check_stmt.proofs.scopes.with_levels.Given as goal

abbrev pub invariant-loop : goal.invariant-loop
invariant-loop l = l.ty ≡ spec.arrays l.counter l.initial.ty

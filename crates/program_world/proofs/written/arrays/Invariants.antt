use Rattle.std.proofs.Common.{◌≡◌}
use Rattle.written_types.specs.Types as types
use Rattle.program_world.proofs.written.arrays.Given as goal

abbrev pub invariant-loop : goal.invariant-loop
invariant-loop l = l.array ≡ types.arrays l.counter l.fn.ty

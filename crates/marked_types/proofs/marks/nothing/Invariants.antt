use Rattle.std.proofs.Common.{◌≡◌, None}
use Rattle.marked_types.specs.Table as spec
use Rattle.marked_types.proofs.marks.nothing.Given as goal

abbrev pub invariant-loop : goal.invariant-loop
invariant-loop l = l.all ≡ spec.so_many None l.counter

use Rattle.std.proofs.Common.{◌≡◌, []}
use Rattle.marked_types.specs.Table as spec
use Rattle.marked_types.proofs.marks.no_lists.Given as goal

abbrev pub invariant-loop : goal.invariant-loop
invariant-loop l = l.all ≡ spec.so_many [] l.counter

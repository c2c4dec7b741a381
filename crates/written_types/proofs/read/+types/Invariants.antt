use Rattle.std.proofs.Common.{◌≡◌, drop}
use Rattle.written_types.specs.Places.{Place, IsPlace}
use Rattle.written_types.proofs.Steps.{behind, read}
use Rattle.written_types.proofs.read.+types.Given as goal

abbrev pub invariant-read_types-loop-x : goal.invariant-read_types-loop-x
invariant-read_types-loop-x l = (p : Place) → IsPlace l.scope p → behind l.types (read p (drop l.x-index l.xs)) ≡ read p l.xs

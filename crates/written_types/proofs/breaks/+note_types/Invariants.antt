use Rattle.std.proofs.Common.{◌≡◌, drop}
use Rattle.written_types.specs.Places.{Place, IsPlace}
use Rattle.written_types.proofs.Steps.{walked}
use Rattle.written_types.proofs.breaks.+note_types.Given as goal

abbrev pub invariant-loop-x : goal.invariant-loop-x
invariant-loop-x l = (p : Place) → IsPlace l.scope p → walked p (drop l.x-index l.xs) l.first ≡ walked p l.xs l.fn.first

use Rattle.std.proofs.Common.{◌≡◌, ◌++◌, drop}
use Rattle.marked_types.specs.Marked as spec
use Rattle.marked_types.proofs.marking.marks_among.Given as goal

abbrev pub invariant-loop-t : goal.invariant-loop-t
invariant-loop-t l = l.places ++ spec.marks_among (drop l.t-index l.types) ≡ spec.marks_among l.types

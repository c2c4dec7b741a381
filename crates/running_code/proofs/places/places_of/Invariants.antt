use Rattle.std.proofs.Common.{take}
use Rattle.running_code.specs.Places.{ArePlaces}
use Rattle.running_code.proofs.places.places_of.Given as goal

abbrev pub invariant-loop-at : goal.invariant-loop-at
invariant-loop-at l = ArePlaces l.t (take l.at l.numbers)

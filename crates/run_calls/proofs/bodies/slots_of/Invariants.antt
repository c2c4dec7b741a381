use Rattle.std.proofs.Common.{◌≡◌, map, take, Some}
use Rattle.run_calls.proofs.bodies.slots_of.Given as goal

abbrev pub invariant-loop-x : goal.invariant-loop-x
invariant-loop-x l = l.slots ≡ map Some (take l.x-index l.args)

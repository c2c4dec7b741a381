use Rattle.std.proofs.Common.{◌≡◌, ◌++◌, take, drop}
use Rattle.interface_text.specs.Imports as spec
use Rattle.interface_text.proofs.lists.place_of.Given as goal

abbrev pub invariant-loop-at : goal.invariant-loop-at
invariant-loop-at l = spec.put l.name l.found ≡ take l.at l.found ++ spec.put l.name (drop l.at l.found)

use Rattle.std.proofs.Common.{◌≡◌, ◌++◌, map, take}
use Rattle.type_names.proofs.known.push_packages.Given as goal

abbrev pub invariant-loop-unit : goal.invariant-loop-unit
invariant-loop-unit l = l.paths ≡ l.initial.paths ++ map (λ u. u.«package») (take l.unit-index l.units)

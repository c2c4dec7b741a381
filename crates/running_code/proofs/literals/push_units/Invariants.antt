use Rattle.std.proofs.Common.{◌≡◌, ◌++◌, drop}
use Rattle.running_code.proofs.literals.push_units.Given as goal

abbrev pub invariant-loop-unit : goal.invariant-loop-unit
invariant-loop-unit l = l.out ++ drop l.unit-index l.units ≡ l.fn.out ++ l.units

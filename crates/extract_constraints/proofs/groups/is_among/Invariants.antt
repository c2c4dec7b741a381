use Rattle.std.proofs.Common.{◌≡◌, drop}
use Rattle.extract_constraints.specs.Groups as spec
use Rattle.extract_constraints.proofs.groups.is_among.Given as goal

abbrev pub invariant-loop-j : goal.invariant-loop-j
invariant-loop-j l = spec.is_among (drop l.j-index l.numbers) l.m ≡ spec.is_among l.numbers l.m

use Rattle.std.proofs.Common.{◌≡◌, drop, pos}
use Rattle.core_meaning.specs.Texts as spec
use Rattle.java_strings.proofs.compared.hash_of.Given as goal

abbrev pub invariant-loop-unit : goal.invariant-loop-unit
invariant-loop-unit l = spec.hash_from (pos 0) l.units ≡ spec.hash_from l.hash (drop l.unit-index l.units)

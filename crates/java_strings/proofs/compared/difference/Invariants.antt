use Rattle.std.proofs.Common.{◌≡◌, ◌≤◌, length, drop}
use Rattle.core_meaning.specs.Texts as spec
use Rattle.java_strings.proofs.compared.difference.Given as goal

abbrev pub invariant-loop-at : goal.invariant-loop-at
invariant-loop-at l = (l.at ≤ length l.b) × (spec.difference l.a l.b ≡ spec.difference (drop l.at l.a) (drop l.at l.b))

use Rattle.std.proofs.Common.{◌≡◌, drop}
use Rattle.type_kinds.specs.Kinds as spec
use Rattle.type_kinds.proofs.kinds.has.Given as goal

abbrev pub invariant-loop-other : goal.invariant-loop-other
invariant-loop-other l = spec.has l.modifier (drop l.other-index l.mods) ≡ spec.has l.modifier l.mods

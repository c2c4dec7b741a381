use Rattle.std.specs.List.{Contains}
use Rattle.inherited_rules.specs.Parts.{AreUnresolved}
use Rattle.inherited_rules.proofs.Named.{AreClear}
use Rattle.inherited_rules.proofs.unresolved.is_unresolved.Given as goal

abbrev pub invariant-loop-k : goal.invariant-loop-k
invariant-loop-k l = AreClear (AreUnresolved l.w l.c (Contains l.tops) l.m) l.methods l.k-index

use Rattle.inherited_rules.specs.Parts.{IsUnmet}
use Rattle.inherited_rules.proofs.Named.{AreClear}
use Rattle.inherited_rules.proofs.bodies.is_any_unmet.Given as goal

abbrev pub invariant-loop-m : goal.invariant-loop-m
invariant-loop-m l = AreClear (IsUnmet l.w l.c) l.members l.m-index

use Rattle.class_world.specs.Counted.{IsOfClass}
use Rattle.member_methods.proofs.Firsts.{Keeps}
use Rattle.inherited_rules.proofs.unresolved.of_classes.Given as goal

abbrev pub invariant-loop-t : goal.invariant-loop-t
invariant-loop-t l = Keeps (IsOfClass l.w) l.methods l.found.items l.t-index

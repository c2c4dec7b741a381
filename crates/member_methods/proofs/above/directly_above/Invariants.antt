use Rattle.class_world.specs.Access.{IsInterface}
use Rattle.member_methods.proofs.Direct.{AreAboveFirst}
use Rattle.member_methods.proofs.above.directly_above.Given as goal

abbrev pub invariant-loop-d : goal.invariant-loop-d
invariant-loop-d l = record {
  interfaces : AreAboveFirst (IsInterface l.w) l.d-items l.interfaces.items l.d-index;
  others : AreAboveFirst (λ s. IsInterface l.w s → ⊥) l.d-items l.others.items l.d-index;
}

use Rattle.std.proofs.Common.{◌≡◌, ◌++◌, drop}
use Rattle.type_facts.specs.Facts.{AreFacts, Facts}
use Rattle.member_uses.specs.Targets.{constructors_among}
use Rattle.member_uses.proofs.methods.constructors_among.Given as goal

abbrev pub invariant-loop-method : goal.invariant-loop-method
invariant-loop-method l = (f : Facts) → AreFacts l.q f → l.done ++ constructors_among f l.arity (drop l.method-index l.methods) ≡ constructors_among f l.arity l.methods

use Rattle.std.proofs.Common.{◌≡◌, ◌++◌, drop}
use Rattle.type_facts.specs.Facts.{AreFacts, Facts}
use Rattle.member_uses.specs.Targets.{candidates}
use Rattle.member_uses.proofs.methods.candidates.Given as goal

abbrev pub invariant-loop-method : goal.invariant-loop-method
invariant-loop-method l = (f : Facts) → AreFacts l.q f → l.done ++ candidates f l.ty (drop l.method-index l.methods) ≡ candidates f l.ty l.methods

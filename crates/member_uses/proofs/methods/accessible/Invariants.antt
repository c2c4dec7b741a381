use Rattle.std.proofs.Common.{◌≡◌, ◌++◌, drop}
use Rattle.type_facts.specs.Facts.{AreFacts, Facts}
use Rattle.member_uses.specs.Targets.{accessible}
use Rattle.member_uses.proofs.methods.accessible.Given as goal

abbrev pub invariant-loop-method : goal.invariant-loop-method
invariant-loop-method l = (f : Facts) → AreFacts l.q f → l.done ++ accessible f l.place (drop l.method-index l.methods) ≡ accessible f l.place l.methods

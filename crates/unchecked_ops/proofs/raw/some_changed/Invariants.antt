use Rattle.std.proofs.Common.{◌≡◌, drop}
use Rattle.type_facts.specs.Facts.{AreFacts, Facts}
use Rattle.unchecked_ops.specs.Raw as spec
use Rattle.unchecked_ops.proofs.raw.some_changed.Given as goal

abbrev pub invariant-loop-t : goal.invariant-loop-t
invariant-loop-t l = (f : Facts) → AreFacts l.q f → spec.some_changed f (drop l.t-index l.ts) ≡ spec.some_changed f l.ts

use Rattle.std.proofs.Common.{◌≡◌, drop, map}
use Rattle.java_core.specs.View.{written}
use Rattle.checked.specs.Checked.{behind}
use Rattle.type_facts.specs.Facts.{AreFacts, Facts}
use Rattle.operator_rules.proofs.TypeSteps.{row_of}
use Rattle.operator_rules.proofs.writtens.+written.Given as goal

abbrev pub invariant-writtens-loop-x : goal.invariant-writtens-loop-x
invariant-writtens-loop-x l = (f : Facts) → AreFacts l.q f → behind (map written l.done) (row_of f l.place (drop l.x-index l.xs)) ≡ row_of f l.place l.xs

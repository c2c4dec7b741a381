use Rattle.std.proofs.Common.{◌≡◌, ◌+◌, ◌++◌, ℕ, map, drop, take, length}
use Rattle.java_tree.specs.View as view
use Rattle.checked.specs.Checked.{behind}
use Rattle.type_facts.specs.Facts.{AreFacts, Facts}
use Rattle.java_core.specs.View.{written}
use Rattle.check_program.specs.Classes as spec
use Rattle.check_program.proofs.parts.all_written.Given as goal

abbrev pub invariant-loop-x : goal.invariant-loop-x
invariant-loop-x l = (f : Facts) → AreFacts l.q f → behind (map written l.done) (spec.all_written f l.place (map view.type_plain (drop l.x-index l.xs))) ≡ spec.all_written f l.place (map view.type_plain l.xs)

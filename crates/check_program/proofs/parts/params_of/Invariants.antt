use Rattle.std.proofs.Common.{◌≡◌, ◌+◌, ◌++◌, ℕ, map, drop, take, length}
use Rattle.java_tree.specs.View as view
use Rattle.checked.specs.Checked.{behind}
use Rattle.type_facts.specs.Facts.{AreFacts, Facts}
use Rattle.java_core.specs.View.{param_plain}
use Rattle.check_program.specs.Classes as spec
use Rattle.check_program.proofs.parts.params_of.Given as goal

abbrev pub invariant-loop-x : goal.invariant-loop-x
invariant-loop-x l = (f : Facts) → AreFacts l.q f → behind (map param_plain l.done) (spec.params_from f l.place (length l.done) (map view.param_plain (drop l.x-index l.xs))) ≡ spec.params_from f l.place 0 (map view.param_plain l.xs)

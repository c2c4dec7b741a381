use Rattle.std.proofs.Common.{◌≡◌, ◌+◌, ◌++◌, ℕ, map, drop, take, length}
use Rattle.java_tree.specs.View as view
use Rattle.checked.specs.Checked.{behind}
use Rattle.type_facts.specs.Facts.{AreFacts, Facts}
use Rattle.java_core.specs.View.{class_plain}
use Rattle.check_program.specs.Typing as spec
use Rattle.check_program.proofs.program.check_classes.Given as goal

abbrev pub invariant-loop-d : goal.invariant-loop-d
invariant-loop-d l = (f : Facts) → AreFacts l.q f → behind (map class_plain l.done) (spec.classes_of f l.number (map view.decl_plain (drop l.d-index l.ds))) ≡ spec.classes_of f l.initial.number (map view.decl_plain l.ds)

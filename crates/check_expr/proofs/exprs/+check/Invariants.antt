use Rattle.std.proofs.Common.{◌≡◌, ◌+◌, drop, map}
use Rattle.java_tree.specs.View as view
use Rattle.java_core.specs.View.{plain}
use Rattle.checked.specs.Checked.{behind}
use Rattle.type_facts.specs.Facts.{AreFacts, Facts}
use Rattle.check_expr.specs.Heights.{height, heights, thrice}
use Rattle.check_expr.specs.Typed as spec
use Rattle.check_expr.proofs.exprs.+check.Given as goal

abbrev pub decreases-check_for : goal.decreases-check_for
decreases-check_for l = thrice (height (view.plain l.e.now))

abbrev pub decreases-check_operand : goal.decreases-check_operand
decreases-check_operand l = thrice (height (view.plain l.e.now)) + 1

abbrev pub decreases-check_filled : goal.decreases-check_filled
decreases-check_filled l = thrice (height (view.plain l.items.now)) + 3

abbrev pub decreases-check_filling : goal.decreases-check_filling
decreases-check_filling l = thrice (heights (view.plains l.items.now)) + 1

abbrev pub decreases-check_items : goal.decreases-check_items
decreases-check_items l = thrice (heights (view.plains l.es.now))

abbrev pub decreases-check_all : goal.decreases-check_all
decreases-check_all l = thrice (heights (view.plains l.es.now))

abbrev pub invariant-check_items-loop-e : goal.invariant-check_items-loop-e
invariant-check_items-loop-e l = (f : Facts) → AreFacts l.q f → behind (map plain l.done) (spec.items f l.place l.locals l.ty (view.plains (drop l.e-index l.es))) ≡ spec.items f l.place l.locals l.ty (view.plains l.es)

abbrev pub invariant-check_all-loop-e : goal.invariant-check_all-loop-e
invariant-check_all-loop-e l = (f : Facts) → AreFacts l.q f → behind (map plain l.done) (spec.typeds f l.place l.locals (view.plains (drop l.e-index l.es))) ≡ spec.typeds f l.place l.locals (view.plains l.es)

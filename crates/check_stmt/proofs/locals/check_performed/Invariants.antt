use Rattle.std.proofs.Common.{◌≡◌, drop, map}
use Rattle.java_tree.specs.View as view
use Rattle.java_core.specs.View.{plain}
use Rattle.checked.specs.Checked.{behind}
use Rattle.type_facts.specs.Facts.{Facts, AreFacts}
use Rattle.check_stmt.specs.Statements.{performed}
use Rattle.check_stmt.proofs.locals.check_performed.Given as goal

abbrev pub invariant-loop-e : goal.invariant-loop-e
invariant-loop-e l = (f : Facts) → AreFacts l.q f → behind (map plain l.done) (performed f l.place l.locals (view.plains (drop l.e-index l.es))) ≡ performed f l.place l.locals (view.plains l.es)

use Rattle.std.proofs.Common.{◌≡◌, ◌+◌, ◌++◌, ℕ, map, drop, take, length}
use Rattle.java_tree.specs.View as view
use Rattle.checked.specs.Checked.{behind}
use Rattle.type_facts.specs.Facts.{AreFacts, Facts}
use Rattle.java_core.specs.View.{field_plain}
use Rattle.check_program.specs.Classes as spec
use Rattle.check_program.proofs.fields.fields_of.Given as goal

abbrev pub invariant-loop-v : goal.invariant-loop-v
invariant-loop-v l = (f : Facts) → AreFacts l.q f → behind (map field_plain l.done) (spec.fields_of f l.place l.number l.ty (map view.var_plain (drop l.v-index l.vars))) ≡ spec.fields_of f l.place l.field l.ty (map view.var_plain l.vars)

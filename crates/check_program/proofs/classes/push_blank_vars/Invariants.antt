use Rattle.std.proofs.Common.{◌≡◌, ◌+◌, ◌++◌, ℕ, map, drop, take, length}
use Rattle.java_tree.specs.View as view
use Rattle.check_program.specs.Classes as spec
use Rattle.check_program.proofs.classes.push_blank_vars.Given as goal

abbrev pub invariant-loop-v : goal.invariant-loop-v
invariant-loop-v l = l.blanks ++ spec.blank_vars l.number (map view.var_plain (drop l.v-index l.vars)) ≡ l.initial.blanks ++ spec.blank_vars l.field (map view.var_plain l.vars)

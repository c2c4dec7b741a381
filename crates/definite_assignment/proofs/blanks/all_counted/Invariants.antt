use Rattle.std.proofs.Common.{◌≡◌, drop}
use Rattle.java_core.specs.View.{stmt_plain}
use Rattle.definite_assignment.specs.Bodies as spec
use Rattle.definite_assignment.proofs.blanks.all_counted.Given as goal

abbrev pub invariant-loop-x : goal.invariant-loop-x
invariant-loop-x l = spec.all_counted (stmt_plain l.a) (drop l.x-index l.xs) l.first ≡ spec.all_counted (stmt_plain l.a) l.xs l.fn.first

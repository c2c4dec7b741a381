use Rattle.std.proofs.Common.{◌++◌, ◌≡◌, drop}
use Rattle.java_core.specs.View.{stmts_plain}
use Rattle.definite_assignment.specs.Bodies as spec
use Rattle.definite_assignment.proofs.blanks.add_sets_in.Given as goal

abbrev pub invariant-loop-a : goal.invariant-loop-a
invariant-loop-a l = l.out ++ spec.sets_in l.k (stmts_plain (drop l.a-index l.stmts)) ≡ l.fn.out ++ spec.sets_in l.k (stmts_plain l.stmts)

use Rattle.std.proofs.Common.{◌≡◌, drop}
use Rattle.java_core.specs.View.{stmts_plain}
use Rattle.definite_assignment.specs.Bodies as spec
use Rattle.definite_assignment.specs.Variables.{either}
use Rattle.definite_assignment.proofs.locals.add_declared_in.Given as goal

abbrev pub invariant-loop-s : goal.invariant-loop-s
invariant-loop-s l = either l.xs (spec.declared_in (stmts_plain (drop l.s-index l.stmts))) ≡ either l.fn.xs (spec.declared_in (stmts_plain l.stmts))

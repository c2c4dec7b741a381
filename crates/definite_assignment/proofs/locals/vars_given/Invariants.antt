use Rattle.std.proofs.Common.{◌≡◌, drop, map}
use Rattle.java_core.specs.View.{var_plain}
use Rattle.definite_assignment.specs.Bodies as spec
use Rattle.definite_assignment.proofs.locals.vars_given.Given as goal

abbrev pub invariant-loop-var : goal.invariant-loop-var
invariant-loop-var l = spec.vars_given l.w l.is_final (map var_plain (drop l.var-index l.vars)) l.s ≡ spec.vars_given l.w l.is_final (map var_plain l.vars) l.fn.s

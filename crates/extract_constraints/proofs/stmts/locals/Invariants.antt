use Rattle.std.proofs.Common.{◌≡◌, drop, map}
use Rattle.java_core.specs.View.{var_plain, written}
use Rattle.extract_constraints.specs.Links as li
use Rattle.extract_constraints.proofs.Each.{Each}
use Rattle.extract_constraints.proofs.stmts.locals.Given as goal

abbrev pub invariant-loop-var : goal.invariant-loop-var
invariant-loop-var l = Each l.at (λ k a. li.locals k a (written l.written) (map var_plain (drop l.var-index l.vars)) l.s ≡ li.locals k a (written l.written) (map var_plain l.vars) l.fn.s)

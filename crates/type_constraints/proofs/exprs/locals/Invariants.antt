use Rattle.std.proofs.Common.{◌≡◌, drop, map}
use Rattle.java_core.specs.View.{var_plain}
use Rattle.type_constraints.specs.Constraints as spec
use Rattle.type_constraints.proofs.Each.{Each}
use Rattle.type_constraints.proofs.exprs.locals.Given as goal

abbrev pub invariant-loop-var : goal.invariant-loop-var
invariant-loop-var l = Each l.at (λ a. spec.vars a (map var_plain (drop l.var-index l.vars)) l.first ≡ spec.vars a (map var_plain l.vars) l.fn.first)

use Rattle.std.proofs.Common.{◌≡◌, drop, map}
use Rattle.java_tree.specs.View.{var_plain}
use Rattle.check_stmt.specs.Pieces.{with_vars}
use Rattle.check_stmt.specs.Fronts.{IsFront}
use Rattle.check_stmt.proofs.scopes.declare_vars.Given as goal

abbrev pub invariant-loop-var : goal.invariant-loop-var
invariant-loop-var l = record {
  scope : with_vars l.locals l.ty l.is_final (map var_plain (drop l.var-index l.vars)) ≡ with_vars l.fn.locals l.ty l.is_final (map var_plain l.vars);
  front : IsFront l.fn.locals l.locals;
}

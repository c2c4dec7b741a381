use Rattle.std.proofs.Common.{◌≡◌, drop, map}
use Rattle.java_tree.specs.View as view
use Rattle.java_core.specs.View.{var_plain}
use Rattle.checked.specs.Checked.{behind}
use Rattle.type_facts.specs.Facts.{Facts, AreFacts}
use Rattle.check_stmt.specs.Statements.{vars_of}
use Rattle.check_stmt.specs.Fronts.{IsFront}
use Rattle.check_stmt.proofs.locals.check_vars.Given as goal

abbrev pub invariant-loop-var : goal.invariant-loop-var
invariant-loop-var l = record {
  rest : (f : Facts) → AreFacts l.q f → behind (map var_plain l.done) (vars_of f l.place l.locals l.ty l.is_final (map view.var_plain (drop l.var-index l.vars))) ≡ vars_of f l.place l.fn.locals l.ty l.is_final (map view.var_plain l.vars);
  front : IsFront l.fn.locals l.locals;
}

use Rattle.std.proofs.Common.{◌≡◌, drop}
use Rattle.java_tree.specs.View.{stmts_plain}
use Rattle.type_facts.specs.Facts.{Facts, AreFacts}
use Rattle.check_stmt.specs.Statements.{after_all}
use Rattle.check_stmt.specs.Fronts.{IsFront}
use Rattle.check_stmt.proofs.scopes.declare_all.Given as goal

abbrev pub invariant-loop-s : goal.invariant-loop-s
invariant-loop-s l = record {
  scope : (f : Facts) → AreFacts l.q f → after_all f l.place l.locals (stmts_plain (drop l.s-index l.ss)) ≡ after_all f l.place l.fn.locals (stmts_plain l.ss);
  front : IsFront l.fn.locals l.locals;
}

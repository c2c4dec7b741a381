use Rattle.java_core.specs.View.{stmt_plain, stmts_plain}
use Rattle.definite_assignment.specs.Variables.{either}
use Rattle.definite_assignment.proofs.Lists.{either_append}
use Rattle.definite_assignment.specs.Bodies as spec
use Rattle.definite_assignment.proofs.Steps.{step}
use Rattle.definite_assignment.proofs.locals.add_declared_in.Goals as goal

pub loop-s-preserved : goal.loop-s-preserved
loop-s-preserved c =
    step (λ ss xs. either xs (spec.declared_in (stmts_plain ss))) (λ x xs. either xs (spec.declared_by (stmt_plain x))) (λ x ss xs. either_append xs (spec.declared_by (stmt_plain x)) (spec.declared_in (stmts_plain ss))) c.args.stmts.now c.loop-s.s-index c.s-item.result c.loop-s.xs c.add_declared_by.new.xs _
    c.loop-s-test.true c.s-item.is (c.in_ok-add_declared_by.ensures {u = tt}) c.loop-s.invariant

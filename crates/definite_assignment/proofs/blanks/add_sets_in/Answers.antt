use Rattle.std.proofs.Common.{◌++◌, sym, append_assoc}
use Rattle.java_core.specs.View.{stmt_plain, stmts_plain}
use Rattle.definite_assignment.specs.Bodies as spec
use Rattle.definite_assignment.proofs.Steps.{step}
use Rattle.definite_assignment.proofs.blanks.add_sets_in.Goals as goal

pub loop-a-preserved : goal.loop-a-preserved
loop-a-preserved c =
    step (λ xs out. out ++ spec.sets_in c.args.k (stmts_plain xs)) (λ x out. out ++ spec.sets_by c.args.k (stmt_plain x)) (λ x xs out. sym (append_assoc out (spec.sets_by c.args.k (stmt_plain x)) (spec.sets_in c.args.k (stmts_plain xs)))) c.args.stmts.now c.loop-a.a-index c.a-item.result c.loop-a.out c.add_sets_by.new.out _
    c.loop-a-test.true c.a-item.is (c.in_ok-add_sets_by.ensures {u = tt}) c.loop-a.invariant

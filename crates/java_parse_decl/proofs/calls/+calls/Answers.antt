use Rattle.std.proofs.Common.{ap, ◌∙◌}
use Rattle.java_tree.specs.View.{stmt_plain, stmts_plain}
use Rattle.java_parse_decl.specs.Parse.{calls_none, all_call_none}
use Rattle.java_parse_decl.proofs.Walks.{stmts_fail, stmts_go_on, stmts_done, groups_fail, groups_go_on, groups_done, catches_fail, catches_go_on, catches_done}
use Rattle.java_parse_decl.proofs.calls.+calls.Goals as goal

pub all_call_none-returns-then-not-calls_none : goal.all_call_none-returns-then-not-calls_none
all_call_none-returns-then-not-calls_none t c = stmts_fail _ _ _ _ c.loop-x.invariant c.loop-x-test.true c.x-item.is c.calls_none.ensures c.if-not-calls_none.true

pub all_call_none-loop-x-preserved : goal.all_call_none-loop-x-preserved
all_call_none-loop-x-preserved t c = stmts_go_on _ _ _ _ c.loop-x.invariant c.loop-x-test.true c.x-item.is c.calls_none.ensures c.if-not-calls_none.false

pub all_call_none-returns : goal.all_call_none-returns
all_call_none-returns t c = stmts_done _ _ c.loop-x.invariant c.loop-x-test.false

pub groups_call_none-returns-then-not-all_call_none : goal.groups_call_none-returns-then-not-all_call_none
groups_call_none-returns-then-not-all_call_none t c = groups_fail _ _ _ _ c.loop-group.invariant c.loop-group-test.true c.group-item.is (c.all_call_none.ensures ∙ ap (λ xs. all_call_none (stmts_plain xs)) c.as_slice.ensures) c.if-not-all_call_none.true

pub groups_call_none-loop-group-preserved : goal.groups_call_none-loop-group-preserved
groups_call_none-loop-group-preserved t c = groups_go_on _ _ _ _ c.loop-group.invariant c.loop-group-test.true c.group-item.is (c.all_call_none.ensures ∙ ap (λ xs. all_call_none (stmts_plain xs)) c.as_slice.ensures) c.if-not-all_call_none.false

pub groups_call_none-returns : goal.groups_call_none-returns
groups_call_none-returns t c = groups_done _ _ c.loop-group.invariant c.loop-group-test.false

pub catches_call_none-returns-then-not-calls_none : goal.catches_call_none-returns-then-not-calls_none
catches_call_none-returns-then-not-calls_none t c = catches_fail _ _ _ _ c.loop-catch.invariant c.loop-catch-test.true c.catch-item.is (c.calls_none.ensures ∙ ap (λ x. calls_none (stmt_plain x)) c.get.ensures) c.if-not-calls_none.true

pub catches_call_none-loop-catch-preserved : goal.catches_call_none-loop-catch-preserved
catches_call_none-loop-catch-preserved t c = catches_go_on _ _ _ _ c.loop-catch.invariant c.loop-catch-test.true c.catch-item.is (c.calls_none.ensures ∙ ap (λ x. calls_none (stmt_plain x)) c.get.ensures) c.if-not-calls_none.false

pub catches_call_none-returns : goal.catches_call_none-returns
catches_call_none-returns t c = catches_done _ _ c.loop-catch.invariant c.loop-catch-test.false

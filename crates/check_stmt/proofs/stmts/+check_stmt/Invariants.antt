use Rattle.std.proofs.Common.{◌≡◌, ◌+◌, drop, map, []}
use Rattle.java_tree.specs.View as view
use Rattle.java_core.specs.View.{stmt_plain, group_plain, catch_plain}
use Rattle.checked.specs.Checked.{behind}
use Rattle.type_facts.specs.Facts.{Facts, AreFacts}
use Rattle.check_stmt.specs.Statements.{typed_stmts, groups, catches, after_all}
use Rattle.check_stmt.specs.Fronts.{IsFront}
use Rattle.check_stmt.specs.Heights.{stmt_height, stmts_height, groups_height, catch_height, catches_height}
use Rattle.check_stmt.proofs.stmts.+check_stmt.Given as goal

abbrev pub decreases-check_stmt : goal.decreases-check_stmt
decreases-check_stmt l = stmt_height (view.stmt_plain l.s.now)

abbrev pub decreases-check_stmts : goal.decreases-check_stmts
decreases-check_stmts l = stmts_height (view.stmts_plain l.ss.now) + 1

abbrev pub decreases-check_row : goal.decreases-check_row
decreases-check_row l = stmts_height (view.stmts_plain l.ss.now)

abbrev pub decreases-check_within : goal.decreases-check_within
decreases-check_within l = stmt_height (view.stmt_plain l.s.now) + 1

abbrev pub decreases-check_each : goal.decreases-check_each
decreases-check_each l = stmt_height (view.stmt_plain l.body.now) + 2

abbrev pub decreases-check_loop : goal.decreases-check_loop
decreases-check_loop l = stmt_height (view.stmt_plain l.body.now) + 1

abbrev pub decreases-check_for : goal.decreases-check_for
decreases-check_for l = stmts_height (view.stmts_plain l.init.now) + stmt_height (view.stmt_plain l.body.now) + 2

abbrev pub decreases-check_switch : goal.decreases-check_switch
decreases-check_switch l = groups_height (view.group_row (map view.group_plain l.groups.now)) + 2

abbrev pub decreases-check_groups : goal.decreases-check_groups
decreases-check_groups l = groups_height (view.group_row (map view.group_plain l.groups.now)) + 1

abbrev pub decreases-check_each_group : goal.decreases-check_each_group
decreases-check_each_group l = groups_height (view.group_row (map view.group_plain l.groups.now))

abbrev pub decreases-check_catch : goal.decreases-check_catch
decreases-check_catch l = catch_height (view.catch_plain l.catch.now)

abbrev pub decreases-check_catches : goal.decreases-check_catches
decreases-check_catches l = catches_height (view.catch_row (map view.catch_plain l.catches.now))

abbrev pub invariant-check_row-loop-s : goal.invariant-check_row-loop-s
invariant-check_row-loop-s l = record {
  rest : (f : Facts) → AreFacts l.q f → behind (map stmt_plain l.done) (typed_stmts f l.place l.jumps l.first l.locals (view.stmts_plain (drop l.s-index l.ss))) ≡ typed_stmts f l.place l.jumps l.first l.fn.locals (view.stmts_plain l.ss);
  scope : (f : Facts) → AreFacts l.q f → after_all f l.place l.locals (view.stmts_plain (drop l.s-index l.ss)) ≡ after_all f l.place l.fn.locals (view.stmts_plain l.ss);
  front : IsFront l.fn.locals l.locals;
}

abbrev pub invariant-check_each_group-loop-group : goal.invariant-check_each_group-loop-group
invariant-check_each_group-loop-group l = record {
  rest : (f : Facts) → AreFacts l.q f → behind (map group_plain l.done) (groups f l.place l.jumps l.locals l.on_char l.seen (view.group_row (map view.group_plain (drop l.group-index l.groups)))) ≡ groups f l.place l.jumps l.fn.locals l.on_char [] (view.group_row (map view.group_plain l.groups));
  front : IsFront l.fn.locals l.locals;
}

abbrev pub invariant-check_catches-loop-catch : goal.invariant-check_catches-loop-catch
invariant-check_catches-loop-catch l = record {
  rest : (f : Facts) → AreFacts l.q f → behind (map catch_plain l.done) (catches f l.place l.jumps l.locals (view.catch_row (map view.catch_plain (drop l.catch-index l.catches)))) ≡ catches f l.place l.jumps l.fn.locals (view.catch_row (map view.catch_plain l.catches));
  kept : l.locals ≡ l.fn.locals;
}

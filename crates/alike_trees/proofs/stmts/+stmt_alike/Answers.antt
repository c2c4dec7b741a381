use Rattle.std.proofs.Common.{ap, arith, map, refl, ◌∙◌}
use Rattle.std.specs.Option.{option_map}
use Rattle.std.proofs.lemmas.Result.{err_from_is_err_and}
use Rattle.java_core.specs.declared.stmt.CoreStmtForm.TheVariants as v
use Rattle.java_core.specs.declared.stmt.CoreStmtForm.TheOpen as o
use Rattle.java_core.specs.Plain as e
use Rattle.java_core.specs.View.{catch_plain, catch_row, group_plain, group_row, plain, stmt_maybe, stmt_plain, stmts_plain, var_plain, written}
use Rattle.alike_trees.specs.Compared.{pair}
use Rattle.alike_trees.proofs.Heights.{catch_height, catches_height, group_height, groups_height, stmt_height, stmts_height}
use Rattle.alike_trees.proofs.Lists.{catches_walk, groups_walk, stmts_walk}
use Rattle.alike_trees.proofs.Walks.{ended, lower, next, short, stopped}
use Rattle.alike_trees.proofs.Forms.{branches, one_body, stmt_leaf, stmt_refused, stmt_shaped, stmt_through, tried}
use Rattle.alike_trees.proofs.stmts.+stmt_alike.Goals as goal

-- ---- statements without others in them

pub stmt_alike-returns-in-Local : goal.stmt_alike-returns-in-Local
stmt_alike-returns-in-Local t c =
    let a = c.args in
    let i = c.in-Local in
    stmt_leaf a.sides.now a.old.now a.new.now (stmt_shaped a.old.now (v.Local i.is_final i.written i.vars) (o.Local i.is_final i.written i.vars) i.is (v.outs-Local i.is_final i.written i.vars)) (c.locals_alike.ensures i.is_final (written i.written) a.old.now.node)

pub stmt_alike-returns-in-Empty : goal.stmt_alike-returns-in-Empty
stmt_alike-returns-in-Empty t c =
    let a = c.args in
    let i = c.in-Empty in
    stmt_leaf a.sides.now a.old.now a.new.now (stmt_shaped a.old.now v.Empty o.Empty i.is v.outs-Empty) (c.empty_alike.ensures (pair a.sides.now) a.old.now.node)

pub stmt_alike-returns-in-Value : goal.stmt_alike-returns-in-Value
stmt_alike-returns-in-Value t c =
    let a = c.args in
    let i = c.in-Value in
    stmt_leaf a.sides.now a.old.now a.new.now (stmt_shaped a.old.now (v.Value i.x) (o.Value i.x) i.is (v.outs-Value i.x)) (c.value_alike.ensures a.old.now.node)

pub stmt_alike-returns-in-Break : goal.stmt_alike-returns-in-Break
stmt_alike-returns-in-Break t c =
    let a = c.args in
    let i = c.in-Break in
    stmt_leaf a.sides.now a.old.now a.new.now (stmt_shaped a.old.now v.Break o.Break i.is v.outs-Break) (c.break_alike.ensures (pair a.sides.now) a.old.now.node)

pub stmt_alike-returns-in-Continue : goal.stmt_alike-returns-in-Continue
stmt_alike-returns-in-Continue t c =
    let a = c.args in
    let i = c.in-Continue in
    stmt_leaf a.sides.now a.old.now a.new.now (stmt_shaped a.old.now v.Continue o.Continue i.is v.outs-Continue) (c.continue_alike.ensures (pair a.sides.now) a.old.now.node)

pub stmt_alike-returns-in-Return : goal.stmt_alike-returns-in-Return
stmt_alike-returns-in-Return t c =
    let a = c.args in
    let i = c.in-Return in
    stmt_leaf a.sides.now a.old.now a.new.now (stmt_shaped a.old.now (v.Return i.x) (o.Return i.x) i.is (v.outs-Return i.x)) (c.return_alike.ensures a.old.now.node)

pub stmt_alike-returns-in-Throw : goal.stmt_alike-returns-in-Throw
stmt_alike-returns-in-Throw t c =
    let a = c.args in
    let i = c.in-Throw in
    stmt_leaf a.sides.now a.old.now a.new.now (stmt_shaped a.old.now (v.Throw i.x) (o.Throw i.x) i.is (v.outs-Throw i.x)) (c.throw_alike.ensures a.old.now.node)

pub stmt_alike-returns-in-ThisCall : goal.stmt_alike-returns-in-ThisCall
stmt_alike-returns-in-ThisCall t c =
    let a = c.args in
    let i = c.in-ThisCall in
    stmt_leaf a.sides.now a.old.now a.new.now (stmt_shaped a.old.now (v.ThisCall i.constructor i.args) (o.ThisCall i.constructor i.args) i.is (v.outs-ThisCall i.constructor i.args)) (c.this_call_alike.ensures a.old.now.node)

pub stmt_alike-returns-in-SuperCall : goal.stmt_alike-returns-in-SuperCall
stmt_alike-returns-in-SuperCall t c =
    let a = c.args in
    let i = c.in-SuperCall in
    stmt_leaf a.sides.now a.old.now a.new.now (stmt_shaped a.old.now (v.SuperCall i.constructor i.args) (o.SuperCall i.constructor i.args) i.is (v.outs-SuperCall i.constructor i.args)) (c.super_call_alike.ensures a.old.now.node)

-- ---- statements with others in them

pub stmt_alike-returns-in_err-in_block-in-Block : goal.stmt_alike-returns-in_err-in_block-in-Block
stmt_alike-returns-in_err-in_block-in-Block t c =
    let a = c.args in
    let i = c.in-Block in
    let exit = err_from_is_err_and c.from_residual.result c.from_residual.ensures.1 in
    stmt_refused a.sides.now a.old.now a.new.now c.from_residual.result exit
    (stmt_shaped a.old.now (v.Block i.stmts) (o.Block i.stmts) i.is (v.outs-Block i.stmts))
    (c.in_err-in_block-in-Block.ensures (pair a.sides.now) a.old.now.node (stmts_plain i.stmts))

pub stmt_alike-returns-in_ok-in_block-in-Block : goal.stmt_alike-returns-in_ok-in_block-in-Block
stmt_alike-returns-in_ok-in_block-in-Block t c =
    let a = c.args in
    let i = c.in-Block in
    stmt_through a.sides.now a.old.now a.new.now
    (stmt_shaped a.old.now (v.Block i.stmts) (o.Block i.stmts) i.is (v.outs-Block i.stmts)) c.stmts_alike.ensures
    (c.in_ok-in_block-in-Block.ensures (pair a.sides.now) a.old.now.node (stmts_plain i.stmts))

pub stmt_alike-returns-in_err-in_if-in-If : goal.stmt_alike-returns-in_err-in_if-in-If
stmt_alike-returns-in_err-in_if-in-If t c =
    let a = c.args in
    let i = c.in-If in
    let exit = err_from_is_err_and c.from_residual-in_err-in_if-in-If.result c.from_residual-in_err-in_if-in-If.ensures.1 in
    stmt_refused a.sides.now a.old.now a.new.now c.from_residual-in_err-in_if-in-If.result exit
    (stmt_shaped a.old.now (v.If i.test i.yes i.no) (o.If i.test i.yes i.no) i.is (v.outs-If i.test i.yes i.no) ∙ branches a.old.now.node i.test i.yes i.no)
    (c.in_err-in_if-in-If.ensures a.old.now.node (stmt_plain i.yes) (stmt_maybe (option_map stmt_plain i.no)))

pub stmt_alike-returns-in_ok-in_if-in-If : goal.stmt_alike-returns-in_ok-in_if-in-If
stmt_alike-returns-in_ok-in_if-in-If t c =
    let a = c.args in
    let i = c.in-If in
    stmt_through a.sides.now a.old.now a.new.now
    (stmt_shaped a.old.now (v.If i.test i.yes i.no) (o.If i.test i.yes i.no) i.is (v.outs-If i.test i.yes i.no) ∙ branches a.old.now.node i.test i.yes i.no) c.branches_alike.ensures
    (c.in_ok-in_if-in-If.ensures a.old.now.node (stmt_plain i.yes) (stmt_maybe (option_map stmt_plain i.no)))

pub stmt_alike-returns-in_err-in_while-in-While : goal.stmt_alike-returns-in_err-in_while-in-While
stmt_alike-returns-in_err-in_while-in-While t c =
    let a = c.args in
    let i = c.in-While in
    let exit = err_from_is_err_and c.from_residual-in_err-in_while-in-While.result c.from_residual-in_err-in_while-in-While.ensures.1 in
    stmt_refused a.sides.now a.old.now a.new.now c.from_residual-in_err-in_while-in-While.result exit
    (stmt_shaped a.old.now (v.While i.test i.body) (o.While i.test i.body) i.is (v.outs-While i.test i.body))
    (c.in_err-in_while-in-While.ensures a.old.now.node (stmt_plain i.body))

pub stmt_alike-returns-in_ok-in_while-in-While : goal.stmt_alike-returns-in_ok-in_while-in-While
stmt_alike-returns-in_ok-in_while-in-While t c =
    let a = c.args in
    let i = c.in-While in
    one_body a.sides.now a.old.now a.new.now (λ n z. e.While n (plain i.test) z) i.body c.get.result.now
    (stmt_shaped a.old.now (v.While i.test i.body) (o.While i.test i.body) i.is (v.outs-While i.test i.body)) c.get.ensures c.stmt_alike.ensures
    (c.in_ok-in_while-in-While.ensures)

pub stmt_alike-returns-in_err-in_do-in-Do : goal.stmt_alike-returns-in_err-in_do-in-Do
stmt_alike-returns-in_err-in_do-in-Do t c =
    let a = c.args in
    let i = c.in-Do in
    let exit = err_from_is_err_and c.from_residual-in_err-in_do-in-Do.result c.from_residual-in_err-in_do-in-Do.ensures.1 in
    stmt_refused a.sides.now a.old.now a.new.now c.from_residual-in_err-in_do-in-Do.result exit
    (stmt_shaped a.old.now (v.Do i.body i.test) (o.Do i.body i.test) i.is (v.outs-Do i.body i.test))
    (c.in_err-in_do-in-Do.ensures a.old.now.node (stmt_plain i.body))

pub stmt_alike-returns-in_ok-in_do-in-Do : goal.stmt_alike-returns-in_ok-in_do-in-Do
stmt_alike-returns-in_ok-in_do-in-Do t c =
    let a = c.args in
    let i = c.in-Do in
    one_body a.sides.now a.old.now a.new.now (λ n z. e.Do n z (plain i.test)) i.body c.get-in-Do.result.now
    (stmt_shaped a.old.now (v.Do i.body i.test) (o.Do i.body i.test) i.is (v.outs-Do i.body i.test)) c.get-in-Do.ensures c.stmt_alike-in-Do.ensures
    (c.in_ok-in_do-in-Do.ensures)

pub stmt_alike-returns-in_err-inside-in-For : goal.stmt_alike-returns-in_err-inside-in-For
stmt_alike-returns-in_err-inside-in-For t c =
    let a = c.args in
    let i = c.in-For in
    let exit = err_from_is_err_and c.from_residual-in_err-inside-in-For.result c.from_residual-in_err-inside-in-For.ensures.1 in
    stmt_refused a.sides.now a.old.now a.new.now c.from_residual-in_err-inside-in-For.result exit
    (stmt_shaped a.old.now (v.For i.init i.test i.step i.body) (o.For i.init i.test i.step i.body) i.is (v.outs-For i.init i.test i.step i.body))
    (c.in_err-inside-in-For.ensures a.old.now.node (stmts_plain i.init) (stmt_plain i.body))

pub stmt_alike-returns-in_ok-inside-in-For : goal.stmt_alike-returns-in_ok-inside-in-For
stmt_alike-returns-in_ok-inside-in-For t c =
    let a = c.args in
    let i = c.in-For in
    stmt_through a.sides.now a.old.now a.new.now
    (stmt_shaped a.old.now (v.For i.init i.test i.step i.body) (o.For i.init i.test i.step i.body) i.is (v.outs-For i.init i.test i.step i.body)) c.for_alike.ensures
    (c.in_ok-inside-in-For.ensures a.old.now.node (stmts_plain i.init) (stmt_plain i.body))

pub stmt_alike-returns-in_err-in_for_each-in-ForEach : goal.stmt_alike-returns-in_err-in_for_each-in-ForEach
stmt_alike-returns-in_err-in_for_each-in-ForEach t c =
    let a = c.args in
    let i = c.in-ForEach in
    let exit = err_from_is_err_and c.from_residual-in_err-in_for_each-in-ForEach.result c.from_residual-in_err-in_for_each-in-ForEach.ensures.1 in
    stmt_refused a.sides.now a.old.now a.new.now c.from_residual-in_err-in_for_each-in-ForEach.result exit
    (stmt_shaped a.old.now (v.ForEach i.is_final i.written i.var i.over i.item i.implied i.body) (o.ForEach i.is_final i.written i.var i.over i.item i.implied i.body) i.is (v.outs-ForEach i.is_final i.written i.var i.over i.item i.implied i.body))
    (c.in_err-in_for_each-in-ForEach.ensures i.is_final (written i.written) a.old.now.node (stmt_plain i.body))

pub stmt_alike-returns-in_ok-in_for_each-in-ForEach : goal.stmt_alike-returns-in_ok-in_for_each-in-ForEach
stmt_alike-returns-in_ok-in_for_each-in-ForEach t c =
    let a = c.args in
    let i = c.in-ForEach in
    one_body a.sides.now a.old.now a.new.now (λ n z. e.ForEach n i.is_final (written i.written) (var_plain i.var) (plain i.over) i.item i.implied z) i.body c.get-in-ForEach.result.now
    (stmt_shaped a.old.now (v.ForEach i.is_final i.written i.var i.over i.item i.implied i.body) (o.ForEach i.is_final i.written i.var i.over i.item i.implied i.body) i.is (v.outs-ForEach i.is_final i.written i.var i.over i.item i.implied i.body)) c.get-in-ForEach.ensures c.stmt_alike-in-ForEach.ensures
    (c.in_ok-in_for_each-in-ForEach.ensures i.is_final (written i.written))

pub stmt_alike-returns-in_err-in_switch-in-Switch : goal.stmt_alike-returns-in_err-in_switch-in-Switch
stmt_alike-returns-in_err-in_switch-in-Switch t c =
    let a = c.args in
    let i = c.in-Switch in
    let exit = err_from_is_err_and c.from_residual-in_err-in_switch-in-Switch.result c.from_residual-in_err-in_switch-in-Switch.ensures.1 in
    stmt_refused a.sides.now a.old.now a.new.now c.from_residual-in_err-in_switch-in-Switch.result exit
    (stmt_shaped a.old.now (v.Switch i.on i.groups) (o.Switch i.on i.groups) i.is (v.outs-Switch i.on i.groups))
    (c.in_err-in_switch-in-Switch.ensures a.old.now.node (group_row (map group_plain i.groups)))

pub stmt_alike-returns-in_ok-in_switch-in-Switch : goal.stmt_alike-returns-in_ok-in_switch-in-Switch
stmt_alike-returns-in_ok-in_switch-in-Switch t c =
    let a = c.args in
    let i = c.in-Switch in
    stmt_through a.sides.now a.old.now a.new.now
    (stmt_shaped a.old.now (v.Switch i.on i.groups) (o.Switch i.on i.groups) i.is (v.outs-Switch i.on i.groups)) c.groups_alike.ensures
    (c.in_ok-in_switch-in-Switch.ensures a.old.now.node (group_row (map group_plain i.groups)))

pub stmt_alike-returns-in_err-in_try-in-Try : goal.stmt_alike-returns-in_err-in_try-in-Try
stmt_alike-returns-in_err-in_try-in-Try t c =
    let a = c.args in
    let i = c.in-Try in
    let exit = err_from_is_err_and c.from_residual-in_err-in_try-in-Try.result c.from_residual-in_err-in_try-in-Try.ensures.1 in
    stmt_refused a.sides.now a.old.now a.new.now c.from_residual-in_err-in_try-in-Try.result exit
    (stmt_shaped a.old.now (v.Try i.body i.catches i.last) (o.Try i.body i.catches i.last) i.is (v.outs-Try i.body i.catches i.last) ∙ tried a.old.now.node i.body i.catches i.last)
    (c.in_err-in_try-in-Try.ensures (pair a.sides.now) a.old.now.node (stmt_plain i.body) (catch_row (map catch_plain i.catches)) (stmt_maybe (option_map stmt_plain i.last)))

pub stmt_alike-returns-in_ok-in_try-in-Try : goal.stmt_alike-returns-in_ok-in_try-in-Try
stmt_alike-returns-in_ok-in_try-in-Try t c =
    let a = c.args in
    let i = c.in-Try in
    stmt_through a.sides.now a.old.now a.new.now
    (stmt_shaped a.old.now (v.Try i.body i.catches i.last) (o.Try i.body i.catches i.last) i.is (v.outs-Try i.body i.catches i.last) ∙ tried a.old.now.node i.body i.catches i.last) c.try_alike.ensures
    (c.in_ok-in_try-in-Try.ensures (pair a.sides.now) a.old.now.node (stmt_plain i.body) (catch_row (map catch_plain i.catches)) (stmt_maybe (option_map stmt_plain i.last)))

-- ---- lists

pub stmts_alike-returns-in_default : goal.stmts_alike-returns-in_default
stmts_alike-returns-in_default t c =
    let a = c.args in
    short (stmts_walk (pair a.sides.now)) c.loop-at.at a.old.now c.as_slice-x-items.result.now a.new.now c.as_slice-x-items.ensures _ c.loop-at-test.true c.in_default.ensures.value

pub stmts_alike-stmt_alike-requires : goal.stmts_alike-stmt_alike-requires
stmts_alike-stmt_alike-requires t c =
    let low = lower (λ x. stmt_height (stmt_plain x)) (λ xs. stmts_height (stmts_plain xs)) (λ x xs. refl)
    c.as_slice-x-items.result.now c.loop-at.at c.x-item.result c.loop-at-test.true c.x-item.is in
    (rw (← c.decreases) (omega (arith, low, ap (λ xs. stmts_height (stmts_plain xs)) c.as_slice-x-items.ensures)), c.requires)

pub stmts_alike-returns-in_err-stmt_alike : goal.stmts_alike-returns-in_err-stmt_alike
stmts_alike-returns-in_err-stmt_alike t c =
    let a = c.args in
    let exit = err_from_is_err_and c.from_residual.result c.from_residual.ensures.1 in
    stopped (stmts_walk (pair a.sides.now)) c.loop-at.at a.old.now c.as_slice-x-items.result.now a.new.now c.as_slice-x-items.ensures
    c.x-item.result c.in-Some.y.now c.loop-at-test.true c.x-item.is c.in-Some.ensures.value
    c.from_residual.result _ exit c.in_err-stmt_alike.ensures c.loop-at.invariant

pub stmts_alike-loop-at-preserved : goal.stmts_alike-loop-at-preserved
stmts_alike-loop-at-preserved t c =
    let a = c.args in
    next (stmts_walk (pair a.sides.now)) c.loop-at.at a.old.now c.as_slice-x-items.result.now a.new.now c.as_slice-x-items.ensures
    c.x-item.result c.in-Some.y.now c.loop-at-test.true c.x-item.is c.in-Some.ensures.value
    c.in_ok-stmt_alike.was c.stmt_alike.ensures c.loop-at.invariant

pub stmts_alike-returns : goal.stmts_alike-returns
stmts_alike-returns t c =
    let a = c.args in
    ended (stmts_walk (pair a.sides.now)) c.loop-at.at a.old.now c.as_slice-x-items.result.now a.new.now c.as_slice-x-items.ensures
    c.len.result c.len-2.result c.loop-at-test.false c.len.ensures c.len-2.ensures c.check.ensures c.loop-at.invariant

pub groups_alike-returns-in_default : goal.groups_alike-returns-in_default
groups_alike-returns-in_default t c =
    let a = c.args in
    short (groups_walk (pair a.sides.now)) c.loop-at.at a.old.now c.as_slice-x-items.result.now a.new.now c.as_slice-x-items.ensures _ c.loop-at-test.true c.in_default.ensures.value

pub groups_alike-group_alike-requires : goal.groups_alike-group_alike-requires
groups_alike-group_alike-requires t c =
    let low = lower (λ x. group_height (group_plain x)) (λ xs. groups_height (group_row (map group_plain xs))) (λ x xs. refl)
    c.as_slice-x-items.result.now c.loop-at.at c.x-item.result c.loop-at-test.true c.x-item.is in
    (rw (← c.decreases) (omega (arith, low, ap (λ xs. groups_height (group_row (map group_plain xs))) c.as_slice-x-items.ensures)), c.requires)

pub groups_alike-returns-in_err-group_alike : goal.groups_alike-returns-in_err-group_alike
groups_alike-returns-in_err-group_alike t c =
    let a = c.args in
    let exit = err_from_is_err_and c.from_residual.result c.from_residual.ensures.1 in
    stopped (groups_walk (pair a.sides.now)) c.loop-at.at a.old.now c.as_slice-x-items.result.now a.new.now c.as_slice-x-items.ensures
    c.x-item.result c.in-Some.y.now c.loop-at-test.true c.x-item.is c.in-Some.ensures.value
    c.from_residual.result _ exit c.in_err-group_alike.ensures c.loop-at.invariant

pub groups_alike-loop-at-preserved : goal.groups_alike-loop-at-preserved
groups_alike-loop-at-preserved t c =
    let a = c.args in
    next (groups_walk (pair a.sides.now)) c.loop-at.at a.old.now c.as_slice-x-items.result.now a.new.now c.as_slice-x-items.ensures
    c.x-item.result c.in-Some.y.now c.loop-at-test.true c.x-item.is c.in-Some.ensures.value
    c.in_ok-group_alike.was c.group_alike.ensures c.loop-at.invariant

pub groups_alike-returns : goal.groups_alike-returns
groups_alike-returns t c =
    let a = c.args in
    ended (groups_walk (pair a.sides.now)) c.loop-at.at a.old.now c.as_slice-x-items.result.now a.new.now c.as_slice-x-items.ensures
    c.len.result c.len-2.result c.loop-at-test.false c.len.ensures c.len-2.ensures c.check.ensures c.loop-at.invariant

pub catches_alike-returns-in_default : goal.catches_alike-returns-in_default
catches_alike-returns-in_default t c =
    let a = c.args in
    short (catches_walk (pair a.sides.now)) c.loop-at.at a.old.now c.as_slice-x-items.result.now a.new.now c.as_slice-x-items.ensures _ c.loop-at-test.true c.in_default.ensures.value

pub catches_alike-catch_alike-requires : goal.catches_alike-catch_alike-requires
catches_alike-catch_alike-requires t c =
    let low = lower (λ x. catch_height (catch_plain x)) (λ xs. catches_height (catch_row (map catch_plain xs))) (λ x xs. refl)
    c.as_slice-x-items.result.now c.loop-at.at c.x-item.result c.loop-at-test.true c.x-item.is in
    (rw (← c.decreases) (omega (arith, low, ap (λ xs. catches_height (catch_row (map catch_plain xs))) c.as_slice-x-items.ensures)), c.requires)

pub catches_alike-returns-in_err-catch_alike : goal.catches_alike-returns-in_err-catch_alike
catches_alike-returns-in_err-catch_alike t c =
    let a = c.args in
    let exit = err_from_is_err_and c.from_residual.result c.from_residual.ensures.1 in
    stopped (catches_walk (pair a.sides.now)) c.loop-at.at a.old.now c.as_slice-x-items.result.now a.new.now c.as_slice-x-items.ensures
    c.x-item.result c.in-Some.y.now c.loop-at-test.true c.x-item.is c.in-Some.ensures.value
    c.from_residual.result _ exit c.in_err-catch_alike.ensures c.loop-at.invariant

pub catches_alike-loop-at-preserved : goal.catches_alike-loop-at-preserved
catches_alike-loop-at-preserved t c =
    let a = c.args in
    next (catches_walk (pair a.sides.now)) c.loop-at.at a.old.now c.as_slice-x-items.result.now a.new.now c.as_slice-x-items.ensures
    c.x-item.result c.in-Some.y.now c.loop-at-test.true c.x-item.is c.in-Some.ensures.value
    c.in_ok-catch_alike.was c.catch_alike.ensures c.loop-at.invariant

pub catches_alike-returns : goal.catches_alike-returns
catches_alike-returns t c =
    let a = c.args in
    ended (catches_walk (pair a.sides.now)) c.loop-at.at a.old.now c.as_slice-x-items.result.now a.new.now c.as_slice-x-items.ensures
    c.len.result c.len-2.result c.loop-at-test.false c.len.ensures c.len-2.ensures c.check.ensures c.loop-at.invariant

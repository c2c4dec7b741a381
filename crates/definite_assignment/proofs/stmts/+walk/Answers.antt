use Rattle.std.proofs.Common.{◌≡◌, ◌+◌, None, [], map, ap, refl, sym, ◌∙◌, arith}
use Rattle.std.specs.Option.{option_map}
use Rattle.java_core.specs.declared.stmt.CoreGroup.{out-CoreGroup}
use Rattle.java_core.specs.declared.stmt.CoreCatch.{out-CoreCatch}
use Rattle.java_core.specs.declared.stmt.CoreStmtForm.TheVariants as v
use Rattle.java_core.specs.declared.stmt.CoreStmtForm.TheOpen as o
use Rattle.java_core.specs.View.{catch_plain, catch_row, group_plain, group_row, plain, plains, stmt_maybe, stmt_plain, stmts_plain, var_plain}
use Rattle.reachability.specs.Reached.{has_default}
use Rattle.definite_assignment.specs.declared.state.Variable.TheVariants as variable
use Rattle.definite_assignment.specs.Assigned as assigned
use Rattle.definite_assignment.specs.Bodies as spec
use Rattle.definite_assignment.specs.Variables.{either, without}
use Rattle.definite_assignment.proofs.Heights.{catches_height, groups_height, stmt_height, stmts_height}
use Rattle.definite_assignment.proofs.Oks.{whole}
use Rattle.definite_assignment.proofs.Statements.{catch_first, catch_sum, for_is, for_parts, group_first, group_sum, if_parts, known, return_parts, try_parts}
use Rattle.definite_assignment.proofs.Steps.{finished, lower, step, step_both}
use Rattle.definite_assignment.proofs.stmts.+walk.Goals as goal

pub walk-returns-in-Block : goal.walk-returns-in-Block
walk-returns-in-Block t c =
    let w = c.args.w.now in
    let s = c.args.s.now in
    let i = c.in-Block in
    whole c.walks.result c.walks.new.s _ _
    (ap (λ xs. spec.walks w (stmts_plain xs) s) c.as_slice.ensures ∙ known w c.args.a.now (v.Block i.stmts) (o.Block i.stmts) s i.is (v.outs-Block i.stmts))
    c.walks.ensures

pub walk-returns-in-Local : goal.walk-returns-in-Local
walk-returns-in-Local t c =
    let w = c.args.w.now in
    let s = c.args.s.now in
    let i = c.in-Local in
    whole c.vars_given.result c.vars_given.new.s _ _
    (ap (λ xs. spec.vars_given w i.is_final (map var_plain xs) s) c.as_slice-in-Local.ensures ∙ known w c.args.a.now (v.Local i.is_final i.written i.vars) (o.Local i.is_final i.written i.vars) s i.is (v.outs-Local i.is_final i.written i.vars))
    c.vars_given.ensures

pub walk-returns-in-Empty : goal.walk-returns-in-Empty
walk-returns-in-Empty t c =
    let w = c.args.w.now in
    let s = c.args.s.now in
    let i = c.in-Empty in
    known w c.args.a.now v.Empty o.Empty s i.is v.outs-Empty

pub walk-returns-in-Value : goal.walk-returns-in-Value
walk-returns-in-Value t c =
    let w = c.args.w.now in
    let s = c.args.s.now in
    let i = c.in-Value in
    whole c.value.result c.value.new.s _ _
    (known w c.args.a.now (v.Value i.x) (o.Value i.x) s i.is (v.outs-Value i.x))
    c.value.ensures

pub walk-returns-in_ok-test-in-If : goal.walk-returns-in_ok-test-in-If
walk-returns-in_ok-test-in-If t c =
    let w = c.args.w.now in
    let s = c.args.s.now in
    let i = c.in-If in
    whole c.branches.result c.branches.new.s _ _
    (ap (λ a. assigned.arms (spec.walk w (stmt_plain a)) (spec.maybe_walk w (stmt_maybe (option_map stmt_plain i.no))) c.test.new.s) c.get.ensures
    ∙ ap (assigned.arms (spec.walk w (stmt_plain i.yes)) (spec.maybe_walk w (stmt_maybe (option_map stmt_plain i.no)))) (c.in_ok-test-in-If.ensures {u = tt})
    ∙ if_parts w c.args.a.now.node i.x i.yes i.no s ∙ known w c.args.a.now (v.If i.x i.yes i.no) (o.If i.x i.yes i.no) s i.is (v.outs-If i.x i.yes i.no))
    c.branches.ensures

pub walk-returns-in-While : goal.walk-returns-in-While
walk-returns-in-While t c =
    let w = c.args.w.now in
    let s = c.args.s.now in
    let i = c.in-While in
    whole c.while_loop.result c.while_loop.new.s _ _
    (ap (λ a. spec.while_loop (assigned.test w None (plain i.x)) (spec.walk w (stmt_plain a)) s) c.get-in-While.ensures ∙ known w c.args.a.now (v.While i.x i.body) (o.While i.x i.body) s i.is (v.outs-While i.x i.body))
    c.while_loop.ensures

pub walk-returns-in-Do : goal.walk-returns-in-Do
walk-returns-in-Do t c =
    let w = c.args.w.now in
    let s = c.args.s.now in
    let i = c.in-Do in
    whole c.do_loop.result c.do_loop.new.s _ _
    (ap (λ a. spec.do_loop (spec.walk w (stmt_plain a)) (assigned.test w None (plain i.x)) s) c.get-in-Do.ensures ∙ known w c.args.a.now (v.Do i.body i.x) (o.Do i.body i.x) s i.is (v.outs-Do i.body i.x))
    c.do_loop.ensures

pub walk-returns-in_ok-walks-in-For : goal.walk-returns-in_ok-walks-in-For
walk-returns-in_ok-walks-in-For t c =
    let w = c.args.w.now in
    let s = c.args.s.now in
    let i = c.in-For in
    whole c.for_loop.result c.for_loop.new.s _ _
    (for_is w i.x c.as_slice-in-For-2.result.now i.step c.get-in-For.result.now i.body c.as_slice-in-For.result.now i.init c.walks-in-For.new.s s c.as_slice-in-For-2.ensures c.get-in-For.ensures c.as_slice-in-For.ensures (c.in_ok-walks-in-For.ensures {u = tt})
    ∙ for_parts w c.args.a.now.node i.init i.x i.step i.body s ∙ known w c.args.a.now (v.For i.init i.x i.step i.body) (o.For i.init i.x i.step i.body) s i.is (v.outs-For i.init i.x i.step i.body))
    c.for_loop.ensures

pub walk-returns-in-ForEach : goal.walk-returns-in-ForEach
walk-returns-in-ForEach t c =
    let w = c.args.w.now in
    let s = c.args.s.now in
    let i = c.in-ForEach in
    whole c.for_each.result c.for_each.new.s _ _
    (ap (λ a. spec.for_each i.var.slot (assigned.value w None (plain i.over)) (spec.walk w (stmt_plain a)) s) c.get-in-ForEach.ensures ∙ known w c.args.a.now (v.ForEach i.is_final i.written i.var i.over i.item i.implied i.body) (o.ForEach i.is_final i.written i.var i.over i.item i.implied i.body) s i.is (v.outs-ForEach i.is_final i.written i.var i.over i.item i.implied i.body))
    c.for_each.ensures

pub walk-returns-in_ok-value-in-Switch : goal.walk-returns-in_ok-value-in-Switch
walk-returns-in_ok-value-in-Switch t c =
    let w = c.args.w.now in
    let s = c.args.s.now in
    let i = c.in-Switch in
    whole c.switch.result c.switch.new.s _ _
    (ap (λ gs. spec.switch (has_default (group_row (map group_plain gs))) (λ before. spec.groups w before (group_row (map group_plain gs))) c.value-in-Switch.new.s) c.as_slice-in-Switch.ensures
    ∙ ap (spec.switch (has_default (group_row (map group_plain i.groups))) (λ before. spec.groups w before (group_row (map group_plain i.groups)))) (c.in_ok-value-in-Switch.ensures {u = tt})
    ∙ known w c.args.a.now (v.Switch i.on i.groups) (o.Switch i.on i.groups) s i.is (v.outs-Switch i.on i.groups))
    c.switch.ensures

pub walk-returns-in-Break : goal.walk-returns-in-Break
walk-returns-in-Break t c =
    let w = c.args.w.now in
    let s = c.args.s.now in
    let i = c.in-Break in
    whole c.break_off.result c.break_off.new.s _ _
    (known w c.args.a.now v.Break o.Break s i.is v.outs-Break)
    c.break_off.ensures

pub walk-returns-in-Continue : goal.walk-returns-in-Continue
walk-returns-in-Continue t c =
    let w = c.args.w.now in
    let s = c.args.s.now in
    let i = c.in-Continue in
    whole c.continue_with.result c.continue_with.new.s _ _
    (known w c.args.a.now v.Continue o.Continue s i.is v.outs-Continue)
    c.continue_with.ensures

pub walk-returns-in_ok-optional-in-Return : goal.walk-returns-in_ok-optional-in-Return
walk-returns-in_ok-optional-in-Return t c =
    let w = c.args.w.now in
    let s = c.args.s.now in
    let i = c.in-Return in
    c.return_now.ensures ∙ ap spec.returned (c.in_ok-optional-in-Return.ensures {u = tt}) ∙ return_parts w c.args.a.now.node i.x s ∙ known w c.args.a.now (v.Return i.x) (o.Return i.x) s i.is (v.outs-Return i.x)

pub walk-returns-in_ok-value-in-Throw : goal.walk-returns-in_ok-value-in-Throw
walk-returns-in_ok-value-in-Throw t c =
    let w = c.args.w.now in
    let s = c.args.s.now in
    let i = c.in-Throw in
    c.end.ensures ∙ ap (assigned.at []) (c.in_ok-value-in-Throw.ensures {u = tt}) ∙ known w c.args.a.now (v.Throw i.x) (o.Throw i.x) s i.is (v.outs-Throw i.x)

pub walk-returns-in-Try : goal.walk-returns-in-Try
walk-returns-in-Try t c =
    let w = c.args.w.now in
    let s = c.args.s.now in
    let i = c.in-Try in
    whole c.tried.result c.tried.new.s _ _
    (ap (λ a. spec.tried (spec.walk w (stmt_plain a)) (λ before. spec.catches w before (catch_row (map catch_plain c.as_slice-in-Try.result.now))) (λ before. spec.finished w before (stmt_maybe (option_map stmt_plain i.last))) s) c.get-in-Try.ensures
    ∙ ap (λ cs. spec.tried (spec.walk w (stmt_plain i.body)) (λ before. spec.catches w before (catch_row (map catch_plain cs))) (λ before. spec.finished w before (stmt_maybe (option_map stmt_plain i.last))) s) c.as_slice-in-Try.ensures
    ∙ try_parts w c.args.a.now.node i.body i.catches i.last s ∙ known w c.args.a.now (v.Try i.body i.catches i.last) (o.Try i.body i.catches i.last) s i.is (v.outs-Try i.body i.catches i.last))
    c.tried.ensures

pub walk-returns-in-ThisCall : goal.walk-returns-in-ThisCall
walk-returns-in-ThisCall t c =
    let w = c.args.w.now in
    let s = c.args.s.now in
    let i = c.in-ThisCall in
    whole c.values.result c.values.new.s _ _
    (ap (λ xs. assigned.values w None (plains xs) s) c.as_slice-in-ThisCall.ensures ∙ known w c.args.a.now (v.ThisCall i.constructor i.args) (o.ThisCall i.constructor i.args) s i.is (v.outs-ThisCall i.constructor i.args))
    c.values.ensures

pub walk-returns-in-SuperCall : goal.walk-returns-in-SuperCall
walk-returns-in-SuperCall t c =
    let w = c.args.w.now in
    let s = c.args.s.now in
    let i = c.in-SuperCall in
    whole c.values-in-SuperCall.result c.values-in-SuperCall.new.s _ _
    (ap (λ xs. assigned.values w None (plains xs) s) c.as_slice-in-SuperCall.ensures ∙ known w c.args.a.now (v.SuperCall i.constructor i.args) (o.SuperCall i.constructor i.args) s i.is (v.outs-SuperCall i.constructor i.args))
    c.values-in-SuperCall.ensures

pub walks-walk-requires : goal.walks-walk-requires
walks-walk-requires t c =
    let w = c.args.w.now in
    let s = c.args.s.now in
    let low = lower (λ x. stmt_height (stmt_plain x)) (λ xs. stmts_height (stmts_plain xs)) (λ x xs. refl) c.args.stmts.now c.loop-a.a-index c.a-item.result c.loop-a-test.true c.a-item.is in
    rw (← c.decreases) (omega (arith, low))

pub walks-loop-a-preserved : goal.walks-loop-a-preserved
walks-loop-a-preserved t c =
    let w = c.args.w.now in
    let s = c.args.s.now in
    step (λ xs. spec.walks w (stmts_plain xs)) (λ x. spec.walk w (stmt_plain x)) (λ x xs s. refl) c.args.stmts.now c.loop-a.a-index c.a-item.result c.loop-a.s c.walk.new.s _ c.loop-a-test.true c.a-item.is
    (c.in_ok-walk.ensures {u = tt}) c.loop-a.invariant

pub walks-returns : goal.walks-returns
walks-returns t c =
    let w = c.args.w.now in
    let s = c.args.s.now in
    finished (λ xs. spec.walks w (stmts_plain xs)) (λ s. refl) c.args.stmts.now c.loop-a.a-index c.loop-a.s _ c.loop-a-test.false c.loop-a.invariant

pub maybe_walk-returns-in-Some : goal.maybe_walk-returns-in-Some
maybe_walk-returns-in-Some t c =
    let w = c.args.w.now in
    let s = c.args.s.now in
    let i = c.in-Some in
    whole c.walk.result c.walk.new.s _ _
    (ap (λ x. spec.walk w (stmt_plain x) s) c.get.ensures ∙ sym (ap (λ o. spec.maybe_walk w (stmt_maybe (option_map stmt_plain o)) s) i.is)) c.walk.ensures

pub walk_groups-walks-requires : goal.walk_groups-walks-requires
walk_groups-walks-requires t c =
    let w = c.args.w.now in
    let s = c.args.s.now in
    let low = lower (λ x. stmts_height (stmts_plain (out-CoreGroup x).body)) (λ xs. groups_height (group_row (map group_plain xs))) group_sum c.args.groups.now c.loop-group.group-index c.group-item.result c.loop-group-test.true c.group-item.is in
    let same : stmts_height (stmts_plain c.as_slice-in-loop-group.result.now) ≡ stmts_height (stmts_plain (out-CoreGroup c.group-item.result).body) = ap (λ x. stmts_height (stmts_plain x)) c.as_slice-in-loop-group.ensures in
    rw (← c.decreases) (omega (arith, low, same))

pub walk_groups-loop-group-preserved : goal.walk_groups-loop-group-preserved
walk_groups-loop-group-preserved t c =
    let w = c.args.w.now in
    let s = c.args.s.now in
    step_both (λ gs b s. spec.groups w b (group_row (map group_plain gs)) s) (λ x b. either b (spec.declared_in (stmts_plain (out-CoreGroup x).body)))
    (λ x b s. spec.walks w (stmts_plain (out-CoreGroup x).body) (assigned.joined b s)) (λ x gs b s. group_first w b x gs s)
    c.args.groups.now c.loop-group.group-index c.group-item.result c.loop-group.before c.add_declared_in.new.xs c.loop-group.s c.walks.new.s _ c.loop-group-test.true c.group-item.is
    (c.in_ok-add_declared_in.ensures {u = tt} ∙ ap (λ ss. either c.loop-group.before (spec.declared_in (stmts_plain ss))) c.as_slice-in-loop-group-2.ensures)
    (c.in_ok-walks.ensures {u = tt} ∙ ap (λ ss. spec.walks w (stmts_plain ss) c.join.new.s) c.as_slice-in-loop-group.ensures
    ∙ ap (spec.walks w (stmts_plain (out-CoreGroup c.group-item.result).body)) (c.in_ok-join.ensures {u = tt} ∙ ap (λ b. assigned.joined b c.loop-group.s) c.as_slice.ensures))
    c.loop-group.invariant

pub walk_groups-returns : goal.walk_groups-returns
walk_groups-returns t c =
    let w = c.args.w.now in
    let s = c.args.s.now in
    finished (λ gs. spec.groups w c.loop-group.before (group_row (map group_plain gs))) (λ s. refl) c.args.groups.now c.loop-group.group-index c.loop-group.s _ c.loop-group-test.false c.loop-group.invariant

pub walk_catches-caught-requires : goal.walk_catches-caught-requires
walk_catches-caught-requires t c =
    let w = c.args.w.now in
    let s = c.args.s.now in
    let low = lower (λ x. stmt_height (stmt_plain (out-CoreCatch x).body) + 1) (λ xs. catches_height (catch_row (map catch_plain xs))) catch_sum c.args.catches.now c.loop-catch.catch-index c.catch-item.result c.loop-catch-test.true c.catch-item.is in
    let same : stmt_height (stmt_plain c.get.result.now) ≡ stmt_height (stmt_plain (out-CoreCatch c.catch-item.result).body) = ap (λ x. stmt_height (stmt_plain x)) c.get.ensures in
    rw (← c.decreases) (omega (arith, low, same))

pub walk_catches-loop-catch-preserved : goal.walk_catches-loop-catch-preserved
walk_catches-loop-catch-preserved t c =
    let w = c.args.w.now in
    let s = c.args.s.now in
    let before = c.args.before.now in
    step (λ cs. spec.catches w before (catch_row (map catch_plain cs))) (λ x. spec.caught (without before (variable.Local (out-CoreCatch x).param.slot)) (spec.walk w (stmt_plain (out-CoreCatch x).body)))
    (λ x cs s. catch_first w before x cs s) c.args.catches.now c.loop-catch.catch-index c.catch-item.result c.loop-catch.s c.caught.new.s _ c.loop-catch-test.true c.catch-item.is
    (c.in_ok-caught.ensures {u = tt} ∙ ap (λ a. spec.caught (without before (variable.Local (out-CoreCatch c.catch-item.result).param.slot)) (spec.walk w (stmt_plain a)) c.loop-catch.s) c.get.ensures)
    c.loop-catch.invariant

pub walk_catches-returns : goal.walk_catches-returns
walk_catches-returns t c =
    let w = c.args.w.now in
    let s = c.args.s.now in
    finished (λ cs. spec.catches w c.args.before.now (catch_row (map catch_plain cs))) (λ s. refl) c.args.catches.now c.loop-catch.catch-index c.loop-catch.s _ c.loop-catch-test.false c.loop-catch.invariant

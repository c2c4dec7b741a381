use Rattle.std.proofs.Common.{◌≡◌, [], map, ap, refl, sym, ◌∙◌, arith}
use Rattle.std.specs.Option.{option_map}
use Rattle.java_core.specs.declared.stmt.CoreGroup.{out-CoreGroup}
use Rattle.java_core.specs.declared.stmt.CoreCatch.{out-CoreCatch}
use Rattle.java_core.specs.declared.stmt.CoreStmtForm.TheVariants as v
use Rattle.java_core.specs.declared.stmt.CoreStmtForm.TheOpen as o
use Rattle.java_core.specs.View.{catch_plain, catch_row, group_plain, group_row, plain, plains, stmt_maybe, stmt_plain, stmts_plain}
use Rattle.type_kinds.specs.Kinds.{class_number}
use Rattle.thrown_exceptions.specs.Thrown as spec
use Rattle.thrown_exceptions.proofs.Forms.{ty_at}
use Rattle.thrown_exceptions.proofs.Heights.{catches_height, groups_height, stmt_height, stmts_height}
use Rattle.thrown_exceptions.proofs.Statements.{catch_first, catch_sum, group_first, group_sum, idle, if_parts, stmt_shaped, try_parts}
use Rattle.thrown_exceptions.proofs.Steps.{lower, onto, pair, step}
use Rattle.thrown_exceptions.proofs.stmts.+walk.Goals as goal

pub walk-returns-in-Block : goal.walk-returns-in-Block
walk-returns-in-Block t c =
    λ below is.
    let i = c.in-Block in
    onto c.walks.result c.walks.new.state _ _
    (ap (λ xs. spec.walks c.args.w.now below (stmts_plain xs) c.args.state.now) c.as_slice.ensures
    ∙ sym (ap (λ x. spec.walk c.args.w.now below x c.args.state.now) (stmt_shaped c.args.s.now (v.Block i.stmts) (o.Block i.stmts) i.is (v.outs-Block i.stmts))))
    (c.walks.ensures below is)

pub walk-returns-in_ok-walk-in-If : goal.walk-returns-in_ok-walk-in-If
walk-returns-in_ok-walk-in-If t c =
    λ below is.
    let i = c.in-If in
    onto c.maybe_walk.result c.maybe_walk.new.state _ _
    (ap (spec.maybe_walk c.args.w.now below (stmt_maybe (option_map stmt_plain i.no)))
    (c.in_ok-walk-in-If.ensures {u = tt} below is ∙ pair (λ x s. spec.walk c.args.w.now below (stmt_plain x) s) _ _ _ _ c.get.ensures (c.in_ok-value-in-If.ensures {u = tt} below is))
    ∙ if_parts c.args.w.now below c.args.s.now.node i.test i.yes i.no c.args.state.now
    ∙ sym (ap (λ x. spec.walk c.args.w.now below x c.args.state.now) (stmt_shaped c.args.s.now (v.If i.test i.yes i.no) (o.If i.test i.yes i.no) i.is (v.outs-If i.test i.yes i.no))))
    (c.maybe_walk.ensures below is)

pub walk-returns-in_ok-value-in-While : goal.walk-returns-in_ok-value-in-While
walk-returns-in_ok-value-in-While t c =
    λ below is.
    let i = c.in-While in
    onto c.walk-in-While.result c.walk-in-While.new.state _ _
    (pair (λ x s. spec.walk c.args.w.now below (stmt_plain x) s) _ _ _ _ c.get-in-While.ensures (c.in_ok-value-in-While.ensures {u = tt} below is)
    ∙ sym (ap (λ x. spec.walk c.args.w.now below x c.args.state.now) (stmt_shaped c.args.s.now (v.While i.test i.body) (o.While i.test i.body) i.is (v.outs-While i.test i.body))))
    (c.walk-in-While.ensures below is)

pub walk-returns-in_ok-walk-in-Do : goal.walk-returns-in_ok-walk-in-Do
walk-returns-in_ok-walk-in-Do t c =
    λ below is.
    let i = c.in-Do in
    onto c.value-in-Do.result c.value-in-Do.new.state _ _
    (ap (spec.value c.args.w.now below (plain i.test)) (c.in_ok-walk-in-Do.ensures {u = tt} below is ∙ ap (λ x. spec.walk c.args.w.now below (stmt_plain x) c.args.state.now) c.get-in-Do.ensures)
    ∙ sym (ap (λ x. spec.walk c.args.w.now below x c.args.state.now) (stmt_shaped c.args.s.now (v.Do i.body i.test) (o.Do i.body i.test) i.is (v.outs-Do i.body i.test))))
    (c.value-in-Do.ensures below is)

pub walk-returns-in_ok-values-in-For : goal.walk-returns-in_ok-values-in-For
walk-returns-in_ok-values-in-For t c =
    λ below is.
    let i = c.in-For in
    onto c.walk-in-For.result c.walk-in-For.new.state _ _
    (pair (λ x s. spec.walk c.args.w.now below (stmt_plain x) s) _ _ _ _ c.get-in-For.ensures
    (c.in_ok-values-in-For.ensures {u = tt} below is ∙ pair (λ xs s. spec.values c.args.w.now below (plains xs) s) _ _ _ _ c.as_slice-in-For-2.ensures
    (c.in_ok-optional-in-For.ensures {u = tt} below is ∙ ap (spec.optional c.args.w.now below (option_map plain i.test))
    (c.in_ok-walks-in-For.ensures {u = tt} below is ∙ ap (λ xs. spec.walks c.args.w.now below (stmts_plain xs) c.args.state.now) c.as_slice-in-For.ensures)))
    ∙ sym (ap (λ x. spec.walk c.args.w.now below x c.args.state.now) (stmt_shaped c.args.s.now (v.For i.init i.test i.step i.body) (o.For i.init i.test i.step i.body) i.is (v.outs-For i.init i.test i.step i.body))))
    (c.walk-in-For.ensures below is)

pub walk-returns-in_ok-value-in-ForEach : goal.walk-returns-in_ok-value-in-ForEach
walk-returns-in_ok-value-in-ForEach t c =
    λ below is.
    let i = c.in-ForEach in
    onto c.walk-in-ForEach.result c.walk-in-ForEach.new.state _ _
    (pair (λ x s. spec.walk c.args.w.now below (stmt_plain x) s) _ _ _ _ c.get-in-ForEach.ensures (c.in_ok-value-in-ForEach.ensures {u = tt} below is)
    ∙ sym (ap (λ x. spec.walk c.args.w.now below x c.args.state.now) (stmt_shaped c.args.s.now (v.ForEach i.is_final i.written i.var i.over i.item i.implied i.body) (o.ForEach i.is_final i.written i.var i.over i.item i.implied i.body) i.is (v.outs-ForEach i.is_final i.written i.var i.over i.item i.implied i.body))))
    (c.walk-in-ForEach.ensures below is)

pub walk-returns-in_ok-value-in-Switch : goal.walk-returns-in_ok-value-in-Switch
walk-returns-in_ok-value-in-Switch t c =
    λ below is.
    let i = c.in-Switch in
    onto c.walk_groups.result c.walk_groups.new.state _ _
    (pair (λ xs s. spec.groups c.args.w.now below (group_row (map group_plain xs)) s) _ _ _ _ c.as_slice-in-Switch.ensures (c.in_ok-value-in-Switch.ensures {u = tt} below is)
    ∙ sym (ap (λ x. spec.walk c.args.w.now below x c.args.state.now) (stmt_shaped c.args.s.now (v.Switch i.on i.groups) (o.Switch i.on i.groups) i.is (v.outs-Switch i.on i.groups))))
    (c.walk_groups.ensures below is)

pub walk-returns-in_ok-value-in-Throw : goal.walk-returns-in_ok-value-in-Throw
walk-returns-in_ok-value-in-Throw t c =
    λ below is.
    let i = c.in-Throw in
    onto c.raise.result c.raise.new.state _ _
    (pair (λ ty s. spec.raise c.args.s.now.node.id (spec.checked_of below (class_number ty)) s) _ _ _ _ (ty_at i.x) (c.in_ok-value-in-Throw.ensures {u = tt} below is)
    ∙ sym (ap (λ x. spec.walk c.args.w.now below x c.args.state.now) (stmt_shaped c.args.s.now (v.Throw i.x) (o.Throw i.x) i.is (v.outs-Throw i.x))))
    (c.raise.ensures below is)

pub walk-returns-in-Try : goal.walk-returns-in-Try
walk-returns-in-Try t c =
    λ below is.
    let i = c.in-Try in
    onto c.walk_try.result c.walk_try.new.state _ _
    (pair (λ x cs. spec.after c.args.state.now.raised (spec.tried c.args.w.now below (catch_row (map catch_plain cs)) (stmt_maybe (option_map stmt_plain i.last)) (spec.walk c.args.w.now below (stmt_plain x) (spec.with_raised [] c.args.state.now)))) _ _ _ _ c.get-in-Try.ensures c.as_slice-in-Try.ensures
    ∙ try_parts c.args.w.now below c.args.s.now.node i.body i.catches i.last c.args.state.now
    ∙ sym (ap (λ x. spec.walk c.args.w.now below x c.args.state.now) (stmt_shaped c.args.s.now (v.Try i.body i.catches i.last) (o.Try i.body i.catches i.last) i.is (v.outs-Try i.body i.catches i.last))))
    (c.walk_try.ensures below is)

pub walk-returns-in_ok-values-in-ThisCall : goal.walk-returns-in_ok-values-in-ThisCall
walk-returns-in_ok-values-in-ThisCall t c =
    λ below is.
    let i = c.in-ThisCall in
    onto c.called.result c.called.new.state _ _
    (ap (spec.called c.args.w.now below c.args.s.now.node i.constructor) (c.in_ok-values-in-ThisCall.ensures {u = tt} below is ∙ ap (λ xs. spec.values c.args.w.now below (plains xs) c.args.state.now) c.as_slice-in-ThisCall.ensures)
    ∙ sym (ap (λ x. spec.walk c.args.w.now below x c.args.state.now) (stmt_shaped c.args.s.now (v.ThisCall i.constructor i.args) (o.ThisCall i.constructor i.args) i.is (v.outs-ThisCall i.constructor i.args))))
    (c.called.ensures below is)

pub walk-returns-in_ok-values-in-SuperCall : goal.walk-returns-in_ok-values-in-SuperCall
walk-returns-in_ok-values-in-SuperCall t c =
    λ below is.
    let i = c.in-SuperCall in
    onto c.called-in-SuperCall.result c.called-in-SuperCall.new.state _ _
    (ap (spec.called c.args.w.now below c.args.s.now.node i.constructor) (c.in_ok-values-in-SuperCall.ensures {u = tt} below is ∙ ap (λ xs. spec.values c.args.w.now below (plains xs) c.args.state.now) c.as_slice-in-SuperCall.ensures)
    ∙ sym (ap (λ x. spec.walk c.args.w.now below x c.args.state.now) (stmt_shaped c.args.s.now (v.SuperCall i.constructor i.args) (o.SuperCall i.constructor i.args) i.is (v.outs-SuperCall i.constructor i.args))))
    (c.called-in-SuperCall.ensures below is)

pub walk-returns-in-Empty : goal.walk-returns-in-Empty
walk-returns-in-Empty t c = λ below is. idle c.args.w.now below c.args.s.now c.args.state.now c.in-Empty.is

pub walk-returns-in-Empty-2 : goal.walk-returns-in-Empty-2
walk-returns-in-Empty-2 t c = λ below is. idle c.args.w.now below c.args.s.now c.args.state.now c.in-Empty.is

pub walk-returns-in-Empty-3 : goal.walk-returns-in-Empty-3
walk-returns-in-Empty-3 t c = λ below is. idle c.args.w.now below c.args.s.now c.args.state.now c.in-Empty.is

pub walks-walk-requires : goal.walks-walk-requires
walks-walk-requires t c =
    (rw (← c.decreases) (lower (λ x. stmt_height (stmt_plain x)) (λ xs. stmts_height (stmts_plain xs)) (λ x xs. refl) c.args.stmts.now c.loop-s.s-index c.s-item.result c.loop-s-test.true c.s-item.is), c.requires)

pub walk_groups-walks-requires : goal.walk_groups-walks-requires
walk_groups-walks-requires t c =
    let low = lower (λ x. stmts_height (stmts_plain (out-CoreGroup x).body)) (λ xs. groups_height (group_row (map group_plain xs))) group_sum c.args.groups.now c.loop-group.group-index c.group-item.result c.loop-group-test.true c.group-item.is in
    let same : stmts_height (stmts_plain c.as_slice.result.now) ≡ stmts_height (stmts_plain (out-CoreGroup c.group-item.result).body) = ap (λ x. stmts_height (stmts_plain x)) c.as_slice.ensures in
    (rw (← c.decreases) (omega (arith, low, same)), c.requires)

pub walk_catches-walk-requires : goal.walk_catches-walk-requires
walk_catches-walk-requires t c =
    let low = lower (λ x. stmt_height (stmt_plain (out-CoreCatch x).body)) (λ xs. catches_height (catch_row (map catch_plain xs))) catch_sum c.args.catches.now c.loop-catch.catch-index c.catch-item.result c.loop-catch-test.true c.catch-item.is in
    let same : stmt_height (stmt_plain c.get.result.now) ≡ stmt_height (stmt_plain (out-CoreCatch c.catch-item.result).body) = ap (λ x. stmt_height (stmt_plain x)) c.get.ensures in
    (rw (← c.decreases) (omega (arith, low, same)), c.requires)

pub walk_groups-loop-group-preserved : goal.walk_groups-loop-group-preserved
walk_groups-loop-group-preserved t c =
    λ below is. step (λ xs s. spec.groups c.args.w.now below (group_row (map group_plain xs)) s) (λ x s. spec.walks c.args.w.now below (stmts_plain (out-CoreGroup x).body) s) (λ x xs s. group_first c.args.w.now below x xs s)
    c.args.groups.now c.loop-group.group-index c.group-item.result c.loop-group.state c.walks.new.state _ c.loop-group-test.true c.group-item.is
    (c.in_ok-walks.ensures {u = tt} below is ∙ ap (λ xs. spec.walks c.args.w.now below (stmts_plain xs) c.loop-group.state) c.as_slice.ensures) (c.loop-group.invariant below is)

pub walk_catches-loop-catch-preserved : goal.walk_catches-loop-catch-preserved
walk_catches-loop-catch-preserved t c =
    λ below is. step (λ xs s. spec.catches c.args.w.now below (catch_row (map catch_plain xs)) s) (λ x s. spec.walk c.args.w.now below (stmt_plain (out-CoreCatch x).body) s) (λ x xs s. catch_first c.args.w.now below x xs s)
    c.args.catches.now c.loop-catch.catch-index c.catch-item.result c.loop-catch.state c.walk.new.state _ c.loop-catch-test.true c.catch-item.is
    (c.in_ok-walk.ensures {u = tt} below is ∙ ap (λ x. spec.walk c.args.w.now below (stmt_plain x) c.loop-catch.state) c.get.ensures) (c.loop-catch.invariant below is)

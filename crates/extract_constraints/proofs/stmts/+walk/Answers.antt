use Rattle.std.specs.Option.{option_map}
use Rattle.std.proofs.Common.{◌≡◌, ap, arith, false, map, refl, sym, ◌∙◌}
use Rattle.java_core.specs.declared.stmt.CoreGroup.{out-CoreGroup}
use Rattle.java_core.specs.declared.stmt.CoreCatch.{out-CoreCatch}
use Rattle.java_core.specs.View.{catch_plain, catch_row, group_plain, group_row, plain, plains, stmt_maybe, stmt_plain, stmts_plain, var_plain, written}
use Rattle.java_core.specs.declared.stmt.CoreStmtForm.TheOpen as o
use Rattle.java_core.specs.declared.stmt.CoreStmtForm.TheVariants as v
use Rattle.class_places.proofs.Heights.{catches_height, groups_height, stmt_height, stmts_height}
use Rattle.class_places.proofs.Steps.{lower, pair, step}
use Rattle.class_places.proofs.Statements.{catch_sum, group_sum}
use Rattle.type_constraints.proofs.Steps.{ended}
use Rattle.extract_constraints.specs.Told.{where_of}
use Rattle.extract_constraints.specs.Arguments as ca
use Rattle.extract_constraints.specs.Links as li
use Rattle.extract_constraints.proofs.Statements.{after_catch, catch_first, group_first, idle, if_parts, stmt_shaped, try_parts}
use Rattle.marked_types.proofs.Forms.{ok_as}
use Rattle.extract_constraints.proofs.stmts.+walk.Goals as goal

pub walk-returns-in-Block : goal.walk-returns-in-Block
walk-returns-in-Block _ c =
    λ k told.
    let a = where_of c.args.at.now in
    let i = c.in-Block in
    ok_as c.walks.result _ _
    (ap (λ xs. li.walks k a (stmts_plain xs) c.args.s) c.as_slice.ensures
    ∙ sym (ap (λ x. li.walk k a x c.args.s) (stmt_shaped c.args.stmt.now (v.Block i.stmts) (o.Block i.stmts) i.is (v.outs-Block i.stmts))))
    (c.walks.ensures k told)

pub walk-returns-in-Local : goal.walk-returns-in-Local
walk-returns-in-Local _ c =
    λ k told.
    let a = where_of c.args.at.now in
    let i = c.in-Local in
    ok_as c.locals.result _ _
    (ap (λ xs. li.locals k a (written i.written) (map var_plain xs) c.args.s) c.as_slice-in-Local.ensures
    ∙ sym (ap (λ x. li.walk k a x c.args.s) (stmt_shaped c.args.stmt.now (v.Local i.is_final i.written i.vars) (o.Local i.is_final i.written i.vars) i.is (v.outs-Local i.is_final i.written i.vars))))
    (c.locals.ensures k told)

pub walk-returns-in_ok-s-in-If-2 : goal.walk-returns-in_ok-s-in-If-2
walk-returns-in_ok-s-in-If-2 _ c =
    λ k told.
    let a = where_of c.args.at.now in
    let i = c.in-If in
    ok_as c.maybe_walk.result _ _
    (ap (li.maybe_walk k a (stmt_maybe (option_map stmt_plain i.no))) (c.in_ok-s-in-If-2.ensures k told ∙ pair (λ x s. li.walk k a (stmt_plain x) s) _ _ _ _ c.get.ensures (c.in_ok-s-in-If.ensures k told))
    ∙ if_parts k a c.args.stmt.now.node i.test i.yes i.no c.args.s
    ∙ sym (ap (λ x. li.walk k a x c.args.s) (stmt_shaped c.args.stmt.now (v.If i.test i.yes i.no) (o.If i.test i.yes i.no) i.is (v.outs-If i.test i.yes i.no))))
    (c.maybe_walk.ensures k told)

pub walk-returns-in_ok-s-in-While : goal.walk-returns-in_ok-s-in-While
walk-returns-in_ok-s-in-While _ c =
    λ k told.
    let a = where_of c.args.at.now in
    let i = c.in-While in
    ok_as c.walk-in-While.result _ _
    (pair (λ x s. li.walk k a (stmt_plain x) s) _ _ _ _ c.get-in-While.ensures (c.in_ok-s-in-While.ensures k told)
    ∙ sym (ap (λ x. li.walk k a x c.args.s) (stmt_shaped c.args.stmt.now (v.While i.test i.body) (o.While i.test i.body) i.is (v.outs-While i.test i.body))))
    (c.walk-in-While.ensures k told)

pub walk-returns-in_ok-s-in-Do : goal.walk-returns-in_ok-s-in-Do
walk-returns-in_ok-s-in-Do _ c =
    λ k told.
    let a = where_of c.args.at.now in
    let i = c.in-Do in
    ok_as c.on_value-in-Do.result _ _
    (ap (λ s. li.same_locals s (λ ls. li.value k a ls (plain i.test))) (c.in_ok-s-in-Do.ensures k told ∙ ap (λ x. li.walk k a (stmt_plain x) c.args.s) c.get-in-Do.ensures)
    ∙ sym (ap (λ x. li.walk k a x c.args.s) (stmt_shaped c.args.stmt.now (v.Do i.body i.test) (o.Do i.body i.test) i.is (v.outs-Do i.body i.test))))
    (c.on_value-in-Do.ensures k told)

pub walk-returns-in_ok-s-in-For-3 : goal.walk-returns-in_ok-s-in-For-3
walk-returns-in_ok-s-in-For-3 _ c =
    λ k told.
    let a = where_of c.args.at.now in
    let i = c.in-For in
    ok_as c.walk-in-For.result _ _
    (pair (λ x s. li.walk k a (stmt_plain x) s) _ _ _ _ c.get-in-For.ensures
    (c.in_ok-s-in-For-3.ensures k told ∙ pair (λ xs s. li.same_locals s (λ ls. li.values k a ls (plains xs))) _ _ _ _ c.as_slice-in-For-2.ensures
    (c.in_ok-s-in-For-2.ensures k told ∙ ap (λ s. li.same_locals s (λ ls. li.optional k a ls (option_map plain i.test)))
    (c.in_ok-s-in-For.ensures k told ∙ ap (λ xs. li.walks k a (stmts_plain xs) c.args.s) c.as_slice-in-For.ensures)))
    ∙ sym (ap (λ x. li.walk k a x c.args.s) (stmt_shaped c.args.stmt.now (v.For i.init i.test i.step i.body) (o.For i.init i.test i.step i.body) i.is (v.outs-For i.init i.test i.step i.body))))
    (c.walk-in-For.ensures k told)

pub walk-returns-in_ok-s-in-ForEach : goal.walk-returns-in_ok-s-in-ForEach
walk-returns-in_ok-s-in-ForEach _ c =
    λ k told.
    let a = where_of c.args.at.now in
    let i = c.in-ForEach in
    ok_as c.walk-in-ForEach.result _ _
    (pair (λ x s. li.walk k a (stmt_plain x) s) _ _ _ _ c.get-in-ForEach.ensures (c.in_ok-s-in-ForEach.ensures k told)
    ∙ sym (ap (λ x. li.walk k a x c.args.s) (stmt_shaped c.args.stmt.now (v.ForEach i.is_final i.written i.var i.over i.item i.implied i.body) (o.ForEach i.is_final i.written i.var i.over i.item i.implied i.body) i.is (v.outs-ForEach i.is_final i.written i.var i.over i.item i.implied i.body))))
    (c.walk-in-ForEach.ensures k told)

pub walk-returns-in_ok-s-in-Switch : goal.walk-returns-in_ok-s-in-Switch
walk-returns-in_ok-s-in-Switch _ c =
    λ k told.
    let a = where_of c.args.at.now in
    let i = c.in-Switch in
    ok_as c.walk_groups.result _ _
    (pair (λ xs s. li.groups k a (group_row (map group_plain xs)) s) _ _ _ _ c.as_slice-in-Switch.ensures (c.in_ok-s-in-Switch.ensures k told)
    ∙ sym (ap (λ x. li.walk k a x c.args.s) (stmt_shaped c.args.stmt.now (v.Switch i.on i.groups) (o.Switch i.on i.groups) i.is (v.outs-Switch i.on i.groups))))
    (c.walk_groups.ensures k told)

pub walk-returns-in_ok-s-in-Try-2 : goal.walk-returns-in_ok-s-in-Try-2
walk-returns-in_ok-s-in-Try-2 _ c =
    λ k told.
    let a = where_of c.args.at.now in
    let i = c.in-Try in
    ok_as c.maybe_walk-in-Try.result _ _
    (ap (li.maybe_walk k a (stmt_maybe (option_map stmt_plain i.last)))
    (c.in_ok-s-in-Try-2.ensures k told ∙ pair (λ xs s. li.catches k a (catch_row (map catch_plain xs)) s) _ _ _ _ c.as_slice-in-Try.ensures
    (c.in_ok-s-in-Try.ensures k told ∙ ap (λ x. li.walk k a (stmt_plain x) c.args.s) c.get-in-Try.ensures))
    ∙ try_parts k a c.args.stmt.now.node i.body i.catches i.last c.args.s
    ∙ sym (ap (λ x. li.walk k a x c.args.s) (stmt_shaped c.args.stmt.now (v.Try i.body i.catches i.last) (o.Try i.body i.catches i.last) i.is (v.outs-Try i.body i.catches i.last))))
    (c.maybe_walk-in-Try.ensures k told)

pub walk-returns-in-ThisCall : goal.walk-returns-in-ThisCall
walk-returns-in-ThisCall _ c =
    λ k told.
    let a = where_of c.args.at.now in
    let i = c.in-ThisCall in
    ok_as c.on_this_call.result _ _
    (ap (λ xs. li.same_locals c.args.s (λ ls l. ca.own_call k a ls c.args.stmt.now.node.id false i.constructor (plains xs) (li.values k a ls (plains xs) l))) c.as_slice-in-ThisCall.ensures
    ∙ sym (ap (λ x. li.walk k a x c.args.s) (stmt_shaped c.args.stmt.now (v.ThisCall i.constructor i.args) (o.ThisCall i.constructor i.args) i.is (v.outs-ThisCall i.constructor i.args))))
    (c.on_this_call.ensures k told)

pub walk-returns-in-SuperCall : goal.walk-returns-in-SuperCall
walk-returns-in-SuperCall _ c =
    λ k told.
    let a = where_of c.args.at.now in
    let i = c.in-SuperCall in
    ok_as c.on_super_call.result _ _
    (ap (λ xs. li.same_locals c.args.s (λ ls l. ca.super_call k a ls c.args.stmt.now.node.id i.constructor (plains xs) (li.values k a ls (plains xs) l))) c.as_slice-in-SuperCall.ensures
    ∙ sym (ap (λ x. li.walk k a x c.args.s) (stmt_shaped c.args.stmt.now (v.SuperCall i.constructor i.args) (o.SuperCall i.constructor i.args) i.is (v.outs-SuperCall i.constructor i.args))))
    (c.on_super_call.ensures k told)

pub walk-returns-in-Value : goal.walk-returns-in-Value
walk-returns-in-Value _ c =
    λ k told.
    let a = where_of c.args.at.now in
    let i = c.in-Value in
    ok_as c.on_value.result _ _
    (refl
    ∙ sym (ap (λ x. li.walk k a x c.args.s) (stmt_shaped c.args.stmt.now (v.Value i.x) (o.Value i.x) i.is (v.outs-Value i.x))))
    (c.on_value.ensures k told)

pub walk-returns-in-Return : goal.walk-returns-in-Return
walk-returns-in-Return _ c =
    λ k told.
    let a = where_of c.args.at.now in
    let i = c.in-Return in
    ok_as c.on_return.result _ _
    (refl
    ∙ sym (ap (λ x. li.walk k a x c.args.s) (stmt_shaped c.args.stmt.now (v.Return i.x) (o.Return i.x) i.is (v.outs-Return i.x))))
    (c.on_return.ensures k told)

pub walk-returns-in-Throw : goal.walk-returns-in-Throw
walk-returns-in-Throw _ c =
    λ k told.
    let a = where_of c.args.at.now in
    let i = c.in-Throw in
    ok_as c.on_throw.result _ _
    (refl
    ∙ sym (ap (λ x. li.walk k a x c.args.s) (stmt_shaped c.args.stmt.now (v.Throw i.x) (o.Throw i.x) i.is (v.outs-Throw i.x))))
    (c.on_throw.ensures k told)

pub walk-returns-in-Empty : goal.walk-returns-in-Empty
walk-returns-in-Empty _ c = λ k told. idle k (where_of c.args.at.now) c.args.stmt.now c.args.s c.in-Empty.is

pub maybe_walk-returns-in-Some : goal.maybe_walk-returns-in-Some
maybe_walk-returns-in-Some _ c =
    λ k told.
    let a = where_of c.args.at.now in
    ok_as c.walk.result _ _
    (ap (λ x. li.walk k a (stmt_plain x) c.args.s) c.get.ensures ∙ sym (ap (λ o. li.maybe_walk k a (stmt_maybe (option_map stmt_plain o)) c.args.s) c.in-Some.is))
    (c.walk.ensures k told)

pub walks-loop-stmt-preserved : goal.walks-loop-stmt-preserved
walks-loop-stmt-preserved _ c =
    λ k told.
    let a = where_of c.args.at.now in
    step (λ xs s. li.walks k a (stmts_plain xs) s) (λ x s. li.walk k a (stmt_plain x) s) (λ x xs s. refl)
    c.args.stmts.now c.loop-stmt.stmt-index c.stmt-item.result c.loop-stmt.s c.in_ok-s.s _ c.loop-stmt-test.true c.stmt-item.is
    (c.in_ok-s.ensures k told) (c.loop-stmt.invariant k told)

pub walks-returns : goal.walks-returns
walks-returns _ c =
    λ k told. ended (λ xs s. li.walks k (where_of c.args.at.now) (stmts_plain xs) s) (λ s. refl) c.args.stmts.now c.loop-stmt.stmt-index c.loop-stmt.s _ c.loop-stmt-test.false (c.loop-stmt.invariant k told)

pub walk_groups-loop-group-preserved : goal.walk_groups-loop-group-preserved
walk_groups-loop-group-preserved _ c =
    λ k told.
    let a = where_of c.args.at.now in
    step (λ xs s. li.groups k a (group_row (map group_plain xs)) s) (λ x s. li.walks k a (stmts_plain (out-CoreGroup x).body) s) (λ x xs s. group_first k a x xs s)
    c.args.groups.now c.loop-group.group-index c.group-item.result c.loop-group.s c.in_ok-s.s _ c.loop-group-test.true c.group-item.is
    (c.in_ok-s.ensures k told ∙ ap (λ xs. li.walks k a (stmts_plain xs) c.loop-group.s) c.as_slice.ensures) (c.loop-group.invariant k told)

pub walk_groups-returns : goal.walk_groups-returns
walk_groups-returns _ c =
    λ k told.
    ended (λ xs s. li.groups k (where_of c.args.at.now) (group_row (map group_plain xs)) s) (λ s. refl) c.args.groups.now c.loop-group.group-index c.loop-group.s _ c.loop-group-test.false
    (c.loop-group.invariant k told)

pub walk_catches-loop-catch-preserved : goal.walk_catches-loop-catch-preserved
walk_catches-loop-catch-preserved _ c =
    λ k told.
    let a = where_of c.args.at.now in
    step (λ xs s. li.catches k a (catch_row (map catch_plain xs)) s) (after_catch k a) (λ x xs s. catch_first k a x xs s)
    c.args.catches.now c.loop-catch.catch-index c.catch-item.result c.loop-catch.s c.in_ok-s.s _ c.loop-catch-test.true c.catch-item.is
    (c.in_ok-s.ensures k told ∙ pair (λ x s. li.walk k a (stmt_plain x) s) _ _ _ _ c.get.ensures c.in_ok-caught.ensures) (c.loop-catch.invariant k told)

pub walk_catches-returns : goal.walk_catches-returns
walk_catches-returns _ c =
    λ k told.
    ended (λ xs s. li.catches k (where_of c.args.at.now) (catch_row (map catch_plain xs)) s) (λ s. refl) c.args.catches.now c.loop-catch.catch-index c.loop-catch.s _ c.loop-catch-test.false
    (c.loop-catch.invariant k told)

pub walks-walk-requires : goal.walks-walk-requires
walks-walk-requires t c =
    (rw (← c.decreases) (lower (λ x. stmt_height (stmt_plain x)) (λ xs. stmts_height (stmts_plain xs)) (λ x xs. refl) c.args.stmts.now c.loop-stmt.stmt-index c.stmt-item.result c.loop-stmt-test.true c.stmt-item.is), c.requires)

pub walk_groups-walks-requires : goal.walk_groups-walks-requires
walk_groups-walks-requires t c =
    let low = lower (λ x. stmts_height (stmts_plain (out-CoreGroup x).body)) (λ xs. groups_height (group_row (map group_plain xs))) group_sum c.args.groups.now c.loop-group.group-index c.group-item.result c.loop-group-test.true c.group-item.is in
    let same : stmts_height (stmts_plain c.as_slice.result.now) ≡ stmts_height (stmts_plain (out-CoreGroup c.group-item.result).body) = ap (λ x. stmts_height (stmts_plain x)) c.as_slice.ensures in
    (rw (← c.decreases) (omega (arith, low, same)), c.requires)

pub walk_catches-walk-requires : goal.walk_catches-walk-requires
walk_catches-walk-requires t c =
    let low = lower (λ x. stmt_height (stmt_plain (out-CoreCatch x).body)) (λ xs. catches_height (catch_row (map catch_plain xs))) catch_sum c.args.catches.now c.loop-catch.catch-index c.catch-item.result c.loop-catch-test.true c.catch-item.is in
    let same : stmt_height (stmt_plain c.get.result.now) ≡ stmt_height (stmt_plain (out-CoreCatch c.catch-item.result).body) = ap (λ x. stmt_height (stmt_plain x)) c.get.ensures in
    (rw (← c.decreases) (omega (arith, low, same)), c.requires)

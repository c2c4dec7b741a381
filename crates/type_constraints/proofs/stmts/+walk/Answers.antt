use Rattle.std.proofs.Common.{◌≡◌, false, map, ap, refl, sym, ◌∙◌, arith}
use Rattle.std.specs.Option.{option_map}
use Rattle.java_core.specs.declared.stmt.CoreGroup.{out-CoreGroup}
use Rattle.java_core.specs.declared.stmt.CoreCatch.{out-CoreCatch}
use Rattle.java_core.specs.declared.stmt.CoreStmtForm.TheVariants as v
use Rattle.java_core.specs.declared.stmt.CoreStmtForm.TheOpen as o
use Rattle.java_core.specs.View.{catch_plain, catch_row, group_plain, group_row, plain, plains, stmt_maybe, stmt_plain, stmts_plain, var_plain}
use Rattle.thrown_exceptions.proofs.Heights.{catches_height, groups_height, stmt_height, stmts_height}
use Rattle.thrown_exceptions.proofs.Statements.{catch_sum, group_sum, stmt_shaped}
use Rattle.thrown_exceptions.proofs.Steps.{lower, ok_as, pair, step}
use Rattle.type_constraints.specs.Arguments as calls
use Rattle.type_constraints.specs.Asked.{asked}
use Rattle.type_constraints.specs.Constraints as spec
use Rattle.type_constraints.proofs.Forms.{catch_first, group_first, idle, if_parts, try_parts}
use Rattle.type_constraints.proofs.Steps.{ended}
use Rattle.type_constraints.proofs.stmts.+walk.Goals as goal

pub walk-returns-in-Block : goal.walk-returns-in-Block
walk-returns-in-Block _ c =
    λ f are t ties.
    let a = asked c.args.at.now f t in
    let i = c.in-Block in
    ok_as c.walks.result _ _
    (ap (λ xs. spec.walks a (stmts_plain xs) c.args.first) c.as_slice.ensures
    ∙ sym (ap (λ x. spec.walk a x c.args.first) (stmt_shaped c.args.s.now (v.Block i.stmts) (o.Block i.stmts) i.is (v.outs-Block i.stmts))))
    (c.walks.ensures f are t ties)

pub walk-returns-in-Local : goal.walk-returns-in-Local
walk-returns-in-Local _ c =
    λ f are t ties.
    let a = asked c.args.at.now f t in
    let i = c.in-Local in
    ok_as c.locals.result _ _
    (ap (λ xs. spec.vars a (map var_plain xs) c.args.first) c.as_slice-in-Local.ensures
    ∙ sym (ap (λ x. spec.walk a x c.args.first) (stmt_shaped c.args.s.now (v.Local i.is_final i.written i.vars) (o.Local i.is_final i.written i.vars) i.is (v.outs-Local i.is_final i.written i.vars))))
    (c.locals.ensures f are t ties)

pub walk-returns-in_ok-first-in-If-2 : goal.walk-returns-in_ok-first-in-If-2
walk-returns-in_ok-first-in-If-2 _ c =
    λ f are t ties.
    let a = asked c.args.at.now f t in
    let i = c.in-If in
    ok_as c.maybe_walk.result _ _
    (ap (spec.maybe_walk a (stmt_maybe (option_map stmt_plain i.no))) (c.in_ok-first-in-If-2.ensures f are t ties ∙ pair (λ x s. spec.walk a (stmt_plain x) s) _ _ _ _ c.get.ensures (c.in_ok-first-in-If.ensures f are t ties))
    ∙ if_parts a c.args.s.now.node i.test i.yes i.no c.args.first
    ∙ sym (ap (λ x. spec.walk a x c.args.first) (stmt_shaped c.args.s.now (v.If i.test i.yes i.no) (o.If i.test i.yes i.no) i.is (v.outs-If i.test i.yes i.no))))
    (c.maybe_walk.ensures f are t ties)

pub walk-returns-in_ok-first-in-While : goal.walk-returns-in_ok-first-in-While
walk-returns-in_ok-first-in-While _ c =
    λ f are t ties.
    let a = asked c.args.at.now f t in
    let i = c.in-While in
    ok_as c.walk-in-While.result _ _
    (pair (λ x s. spec.walk a (stmt_plain x) s) _ _ _ _ c.get-in-While.ensures (c.in_ok-first-in-While.ensures f are t ties)
    ∙ sym (ap (λ x. spec.walk a x c.args.first) (stmt_shaped c.args.s.now (v.While i.test i.body) (o.While i.test i.body) i.is (v.outs-While i.test i.body))))
    (c.walk-in-While.ensures f are t ties)

pub walk-returns-in_ok-first-in-Do : goal.walk-returns-in_ok-first-in-Do
walk-returns-in_ok-first-in-Do _ c =
    λ f are t ties.
    let a = asked c.args.at.now f t in
    let i = c.in-Do in
    ok_as c.value-in-Do.result _ _
    (ap (spec.value a (plain i.test)) (c.in_ok-first-in-Do.ensures f are t ties ∙ ap (λ x. spec.walk a (stmt_plain x) c.args.first) c.get-in-Do.ensures)
    ∙ sym (ap (λ x. spec.walk a x c.args.first) (stmt_shaped c.args.s.now (v.Do i.body i.test) (o.Do i.body i.test) i.is (v.outs-Do i.body i.test))))
    (c.value-in-Do.ensures f are t ties)

pub walk-returns-in_ok-first-in-For-3 : goal.walk-returns-in_ok-first-in-For-3
walk-returns-in_ok-first-in-For-3 _ c =
    λ f are t ties.
    let a = asked c.args.at.now f t in
    let i = c.in-For in
    ok_as c.walk-in-For.result _ _
    (pair (λ x s. spec.walk a (stmt_plain x) s) _ _ _ _ c.get-in-For.ensures
    (c.in_ok-first-in-For-3.ensures f are t ties ∙ pair (λ xs s. spec.values a (plains xs) s) _ _ _ _ c.as_slice-in-For-2.ensures
    (c.in_ok-first-in-For-2.ensures f are t ties ∙ ap (spec.optional a (option_map plain i.test))
    (c.in_ok-first-in-For.ensures f are t ties ∙ ap (λ xs. spec.walks a (stmts_plain xs) c.args.first) c.as_slice-in-For.ensures)))
    ∙ sym (ap (λ x. spec.walk a x c.args.first) (stmt_shaped c.args.s.now (v.For i.init i.test i.step i.body) (o.For i.init i.test i.step i.body) i.is (v.outs-For i.init i.test i.step i.body))))
    (c.walk-in-For.ensures f are t ties)

pub walk-returns-in_ok-first-in-ForEach : goal.walk-returns-in_ok-first-in-ForEach
walk-returns-in_ok-first-in-ForEach _ c =
    λ f are t ties.
    let a = asked c.args.at.now f t in
    let i = c.in-ForEach in
    ok_as c.walk-in-ForEach.result _ _
    (pair (λ x s. spec.walk a (stmt_plain x) s) _ _ _ _ c.get-in-ForEach.ensures (c.in_ok-first-in-ForEach.ensures f are t ties)
    ∙ sym (ap (λ x. spec.walk a x c.args.first) (stmt_shaped c.args.s.now (v.ForEach i.is_final i.written i.var i.x i.item i.implied i.body) (o.ForEach i.is_final i.written i.var i.x i.item i.implied i.body) i.is (v.outs-ForEach i.is_final i.written i.var i.x i.item i.implied i.body))))
    (c.walk-in-ForEach.ensures f are t ties)

pub walk-returns-in_ok-first-in-Switch : goal.walk-returns-in_ok-first-in-Switch
walk-returns-in_ok-first-in-Switch _ c =
    λ f are t ties.
    let a = asked c.args.at.now f t in
    let i = c.in-Switch in
    ok_as c.walk_groups.result _ _
    (pair (λ xs s. spec.groups a (group_row (map group_plain xs)) s) _ _ _ _ c.as_slice-in-Switch.ensures (c.in_ok-first-in-Switch.ensures f are t ties)
    ∙ sym (ap (λ x. spec.walk a x c.args.first) (stmt_shaped c.args.s.now (v.Switch i.on i.groups) (o.Switch i.on i.groups) i.is (v.outs-Switch i.on i.groups))))
    (c.walk_groups.ensures f are t ties)

pub walk-returns-in_ok-first-in-Try-2 : goal.walk-returns-in_ok-first-in-Try-2
walk-returns-in_ok-first-in-Try-2 _ c =
    λ f are t ties.
    let a = asked c.args.at.now f t in
    let i = c.in-Try in
    ok_as c.maybe_walk-in-Try.result _ _
    (ap (spec.maybe_walk a (stmt_maybe (option_map stmt_plain i.last)))
    (c.in_ok-first-in-Try-2.ensures f are t ties ∙ pair (λ xs s. spec.catches a (catch_row (map catch_plain xs)) s) _ _ _ _ c.as_slice-in-Try.ensures
    (c.in_ok-first-in-Try.ensures f are t ties ∙ ap (λ x. spec.walk a (stmt_plain x) c.args.first) c.get-in-Try.ensures))
    ∙ try_parts a c.args.s.now.node i.body i.catches i.last c.args.first
    ∙ sym (ap (λ x. spec.walk a x c.args.first) (stmt_shaped c.args.s.now (v.Try i.body i.catches i.last) (o.Try i.body i.catches i.last) i.is (v.outs-Try i.body i.catches i.last))))
    (c.maybe_walk-in-Try.ensures f are t ties)

pub walk-returns-in_ok-first-in-ThisCall : goal.walk-returns-in_ok-first-in-ThisCall
walk-returns-in_ok-first-in-ThisCall _ c =
    λ f are t ties.
    let a = asked c.args.at.now f t in
    let i = c.in-ThisCall in
    ok_as c.own_arguments.result _ _
    (pair (λ xs s. calls.arguments a false (calls.own_type a) i.constructor (plains xs) s) _ _ _ _ c.as_slice-in-ThisCall-2.ensures (c.in_ok-first-in-ThisCall.ensures f are t ties ∙ ap (λ xs. spec.values a (plains xs) c.args.first) c.as_slice-in-ThisCall.ensures)
    ∙ sym (ap (λ x. spec.walk a x c.args.first) (stmt_shaped c.args.s.now (v.ThisCall i.constructor i.args) (o.ThisCall i.constructor i.args) i.is (v.outs-ThisCall i.constructor i.args))))
    (c.own_arguments.ensures f are t ties)

pub walk-returns-in_ok-first-in-SuperCall : goal.walk-returns-in_ok-first-in-SuperCall
walk-returns-in_ok-first-in-SuperCall _ c =
    λ f are t ties.
    let a = asked c.args.at.now f t in
    let i = c.in-SuperCall in
    ok_as c.super_arguments.result _ _
    (pair (λ xs s. calls.arguments a false (calls.super_type a) i.constructor (plains xs) s) _ _ _ _ c.as_slice-in-SuperCall-2.ensures (c.in_ok-first-in-SuperCall.ensures f are t ties ∙ ap (λ xs. spec.values a (plains xs) c.args.first) c.as_slice-in-SuperCall.ensures)
    ∙ sym (ap (λ x. spec.walk a x c.args.first) (stmt_shaped c.args.s.now (v.SuperCall i.constructor i.args) (o.SuperCall i.constructor i.args) i.is (v.outs-SuperCall i.constructor i.args))))
    (c.super_arguments.ensures f are t ties)

pub walk-returns-in-Value : goal.walk-returns-in-Value
walk-returns-in-Value _ c =
    λ f are t ties.
    let a = asked c.args.at.now f t in
    let i = c.in-Value in
    ok_as c.value.result _ _
    (refl
    ∙ sym (ap (λ x. spec.walk a x c.args.first) (stmt_shaped c.args.s.now (v.Value i.x) (o.Value i.x) i.is (v.outs-Value i.x))))
    (c.value.ensures f are t ties)

pub walk-returns-in-Return : goal.walk-returns-in-Return
walk-returns-in-Return _ c =
    λ f are t ties.
    let a = asked c.args.at.now f t in
    let i = c.in-Return in
    ok_as c.returned.result _ _
    (refl
    ∙ sym (ap (λ x. spec.walk a x c.args.first) (stmt_shaped c.args.s.now (v.Return i.x) (o.Return i.x) i.is (v.outs-Return i.x))))
    (c.returned.ensures f are t ties)

pub walk-returns-in-Throw : goal.walk-returns-in-Throw
walk-returns-in-Throw _ c =
    λ f are t ties.
    let a = asked c.args.at.now f t in
    let i = c.in-Throw in
    ok_as c.throws.result _ _
    (refl
    ∙ sym (ap (λ x. spec.walk a x c.args.first) (stmt_shaped c.args.s.now (v.Throw i.x) (o.Throw i.x) i.is (v.outs-Throw i.x))))
    (c.throws.ensures f are t ties)

pub walk-returns-in-Empty : goal.walk-returns-in-Empty
walk-returns-in-Empty _ c = λ f are t ties. idle (asked c.args.at.now f t) c.args.s.now c.args.first c.in-Empty.is

pub walk-returns-in-Empty-2 : goal.walk-returns-in-Empty-2
walk-returns-in-Empty-2 _ c = λ f are t ties. idle (asked c.args.at.now f t) c.args.s.now c.args.first c.in-Empty.is

pub walk-returns-in-Empty-3 : goal.walk-returns-in-Empty-3
walk-returns-in-Empty-3 _ c = λ f are t ties. idle (asked c.args.at.now f t) c.args.s.now c.args.first c.in-Empty.is

pub maybe_walk-returns-in-Some : goal.maybe_walk-returns-in-Some
maybe_walk-returns-in-Some _ c =
    λ f are t ties.
    let a = asked c.args.at.now f t in
    ok_as c.walk.result _ _
    (ap (λ x. spec.walk a (stmt_plain x) c.args.first) c.get.ensures ∙ sym (ap (λ o. spec.maybe_walk a (stmt_maybe (option_map stmt_plain o)) c.args.first) c.in-Some.is))
    (c.walk.ensures f are t ties)

pub walks-loop-s-preserved : goal.walks-loop-s-preserved
walks-loop-s-preserved _ c =
    λ f are t ties.
    let a = asked c.args.at.now f t in
    step (λ xs s. spec.walks a (stmts_plain xs) s) (λ x s. spec.walk a (stmt_plain x) s) (λ x xs s. refl)
    c.args.stmts.now c.loop-s.s-index c.s-item.result c.loop-s.first c.in_ok-first.first _ c.loop-s-test.true c.s-item.is
    (c.in_ok-first.ensures f are t ties) (c.loop-s.invariant f are t ties)

pub walks-returns : goal.walks-returns
walks-returns _ c =
    λ f are t ties. ended (λ xs s. spec.walks (asked c.args.at.now f t) (stmts_plain xs) s) (λ s. refl) c.args.stmts.now c.loop-s.s-index c.loop-s.first _ c.loop-s-test.false (c.loop-s.invariant f are t ties)

pub walk_groups-returns : goal.walk_groups-returns
walk_groups-returns _ c =
    λ f are t ties.
    ended (λ xs s. spec.groups (asked c.args.at.now f t) (group_row (map group_plain xs)) s) (λ s. refl) c.args.groups.now c.loop-group.group-index c.loop-group.first _ c.loop-group-test.false
    (c.loop-group.invariant f are t ties)

pub walk_catches-returns : goal.walk_catches-returns
walk_catches-returns _ c =
    λ f are t ties.
    ended (λ xs s. spec.catches (asked c.args.at.now f t) (catch_row (map catch_plain xs)) s) (λ s. refl) c.args.catches.now c.loop-catch.catch-index c.loop-catch.first _ c.loop-catch-test.false
    (c.loop-catch.invariant f are t ties)

pub walks-walk-requires : goal.walks-walk-requires
walks-walk-requires _ c =
    (rw (← c.decreases) (lower (λ x. stmt_height (stmt_plain x)) (λ xs. stmts_height (stmts_plain xs)) (λ x xs. refl) c.args.stmts.now c.loop-s.s-index c.s-item.result c.loop-s-test.true c.s-item.is), c.requires)

pub walk_groups-walks-requires : goal.walk_groups-walks-requires
walk_groups-walks-requires _ c =
    let low = lower (λ x. stmts_height (stmts_plain (out-CoreGroup x).body)) (λ xs. groups_height (group_row (map group_plain xs))) group_sum c.args.groups.now c.loop-group.group-index c.group-item.result c.loop-group-test.true c.group-item.is in
    let same : stmts_height (stmts_plain c.as_slice.result.now) ≡ stmts_height (stmts_plain (out-CoreGroup c.group-item.result).body) = ap (λ x. stmts_height (stmts_plain x)) c.as_slice.ensures in
    (rw (← c.decreases) (omega (arith, low, same)), c.requires)

pub walk_catches-walk-requires : goal.walk_catches-walk-requires
walk_catches-walk-requires _ c =
    let low = lower (λ x. stmt_height (stmt_plain (out-CoreCatch x).body)) (λ xs. catches_height (catch_row (map catch_plain xs))) catch_sum c.args.catches.now c.loop-catch.catch-index c.catch-item.result c.loop-catch-test.true c.catch-item.is in
    let same : stmt_height (stmt_plain c.get.result.now) ≡ stmt_height (stmt_plain (out-CoreCatch c.catch-item.result).body) = ap (λ x. stmt_height (stmt_plain x)) c.get.ensures in
    (rw (← c.decreases) (omega (arith, low, same)), c.requires)

pub walk_groups-loop-group-preserved : goal.walk_groups-loop-group-preserved
walk_groups-loop-group-preserved _ c =
    λ f are t ties.
    let a = asked c.args.at.now f t in
    step (λ xs s. spec.groups a (group_row (map group_plain xs)) s) (λ x s. spec.walks a (stmts_plain (out-CoreGroup x).body) s) (λ x xs s. group_first a x xs s)
    c.args.groups.now c.loop-group.group-index c.group-item.result c.loop-group.first c.in_ok-first.first _ c.loop-group-test.true c.group-item.is
    (c.in_ok-first.ensures f are t ties ∙ ap (λ xs. spec.walks a (stmts_plain xs) c.loop-group.first) c.as_slice.ensures) (c.loop-group.invariant f are t ties)

pub walk_catches-loop-catch-preserved : goal.walk_catches-loop-catch-preserved
walk_catches-loop-catch-preserved _ c =
    λ f are t ties.
    let a = asked c.args.at.now f t in
    step (λ xs s. spec.catches a (catch_row (map catch_plain xs)) s) (λ x s. spec.walk a (stmt_plain (out-CoreCatch x).body) s) (λ x xs s. catch_first a x xs s)
    c.args.catches.now c.loop-catch.catch-index c.catch-item.result c.loop-catch.first c.in_ok-first.first _ c.loop-catch-test.true c.catch-item.is
    (c.in_ok-first.ensures f are t ties ∙ ap (λ x. spec.walk a (stmt_plain x) c.loop-catch.first) c.get.ensures) (c.loop-catch.invariant f are t ties)

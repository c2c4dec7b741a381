use Rattle.std.proofs.Common.{◌≡◌, ◌++◌, false, None, map, ap, refl, sym, ◌∙◌, arith}
use Rattle.std.specs.Option.{option_map}
use Rattle.java_core.specs.declared.stmt.CoreGroup.{out-CoreGroup}
use Rattle.java_core.specs.declared.stmt.CoreCatch.{out-CoreCatch}
use Rattle.java_core.specs.declared.stmt.CoreStmtForm.TheVariants as v
use Rattle.java_core.specs.declared.stmt.CoreStmtForm.TheOpen as o
use Rattle.java_core.specs.View.{catch_plain, catch_row, group_plain, group_row, plain, plains, stmt_maybe, stmt_plain, stmts_plain, var_plain}
use Rattle.unchecked_ops.specs.Operations as spec
use Rattle.unchecked_ops.proofs.Arms.{ended, last, nothing_more, pair, whole}
use Rattle.unchecked_ops.proofs.Heights.{catches_height, groups_height, stmt_height, stmts_height}
use Rattle.unchecked_ops.proofs.Statements.{catch_first, catch_sum, group_first, group_sum, idle, if_parts, maybe_some, stmt_shaped, try_parts}
use Rattle.unchecked_ops.proofs.Steps.{lower, step}
use Rattle.unchecked_ops.proofs.stmts.+stmts.Goals as goal

pub stmt_ops-returns-in-Block : goal.stmt_ops-returns-in-Block
stmt_ops-returns-in-Block t c =
    λ f d u m.
    let i = c.in-Block in
    whole c.stmts_ops.result c.args.out.now c.stmts_ops.new.out (spec.stmts_ops f u c.args.own.now c.args.above.now c.args.given.now (stmts_plain c.as_slice.result.now)) (spec.stmt_ops f u c.args.own.now c.args.above.now c.args.given.now (stmt_plain c.args.s.now))
    (ap (λ xs. spec.stmts_ops f u c.args.own.now c.args.above.now c.args.given.now (stmts_plain xs)) c.as_slice.ensures ∙ sym (ap (spec.stmt_ops f u c.args.own.now c.args.above.now c.args.given.now) (stmt_shaped c.args.s.now (v.Block i.stmts) (o.Block i.stmts) i.is (v.outs-Block i.stmts))))
    (c.stmts_ops.ensures f d u m)

pub stmt_ops-returns-in-Local : goal.stmt_ops-returns-in-Local
stmt_ops-returns-in-Local t c =
    λ f d u m.
    let i = c.in-Local in
    whole c.var_ops.result c.args.out.now c.var_ops.new.out (spec.var_ops f u c.args.above.now (map var_plain c.as_slice-in-Local.result.now)) (spec.stmt_ops f u c.args.own.now c.args.above.now c.args.given.now (stmt_plain c.args.s.now))
    (ap (λ xs. spec.var_ops f u c.args.above.now (map var_plain xs)) c.as_slice-in-Local.ensures ∙ sym (ap (spec.stmt_ops f u c.args.own.now c.args.above.now c.args.given.now) (stmt_shaped c.args.s.now (v.Local i.is_final i.written i.vars) (o.Local i.is_final i.written i.vars) i.is (v.outs-Local i.is_final i.written i.vars))))
    (c.var_ops.ensures f d u m)

pub stmt_ops-returns-in-Value : goal.stmt_ops-returns-in-Value
stmt_ops-returns-in-Value t c =
    λ f d u m.
    let i = c.in-Value in
    whole c.ops.result c.args.out.now c.ops.new.out (spec.ops f u c.args.above.now false (plain i.x)) (spec.stmt_ops f u c.args.own.now c.args.above.now c.args.given.now (stmt_plain c.args.s.now))
    (sym (ap (spec.stmt_ops f u c.args.own.now c.args.above.now c.args.given.now) (stmt_shaped c.args.s.now (v.Value i.x) (o.Value i.x) i.is (v.outs-Value i.x))))
    (c.ops.ensures f d u m)

pub stmt_ops-returns-in-Throw : goal.stmt_ops-returns-in-Throw
stmt_ops-returns-in-Throw t c =
    λ f d u m.
    let i = c.in-Throw in
    whole c.ops-in-Throw.result c.args.out.now c.ops-in-Throw.new.out (spec.ops f u c.args.above.now false (plain i.x)) (spec.stmt_ops f u c.args.own.now c.args.above.now c.args.given.now (stmt_plain c.args.s.now))
    (sym (ap (spec.stmt_ops f u c.args.own.now c.args.above.now c.args.given.now) (stmt_shaped c.args.s.now (v.Throw i.x) (o.Throw i.x) i.is (v.outs-Throw i.x))))
    (c.ops-in-Throw.ensures f d u m)

pub stmt_ops-returns-in-Return : goal.stmt_ops-returns-in-Return
stmt_ops-returns-in-Return t c =
    λ f d u m.
    let i = c.in-Return in
    whole c.return_ops.result c.args.out.now c.return_ops.new.out (spec.value_ops f u c.args.above.now c.args.given.now (option_map plain i.x)) (spec.stmt_ops f u c.args.own.now c.args.above.now c.args.given.now (stmt_plain c.args.s.now))
    (sym (ap (spec.stmt_ops f u c.args.own.now c.args.above.now c.args.given.now) (stmt_shaped c.args.s.now (v.Return i.x) (o.Return i.x) i.is (v.outs-Return i.x))))
    (c.return_ops.ensures f d u m)

pub stmt_ops-returns-in_ok-stmt_ops-in-If : goal.stmt_ops-returns-in_ok-stmt_ops-in-If
stmt_ops-returns-in_ok-stmt_ops-in-If t c =
    λ f d u m.
    let i = c.in-If in
    whole c.maybe_stmt.result c.args.out.now c.maybe_stmt.new.out (spec.ops f u c.args.above.now false (plain i.test) ++ (spec.stmt_ops f u c.args.own.now c.args.above.now c.args.given.now (stmt_plain c.get.result.now) ++ spec.maybe_stmt f u c.args.own.now c.args.above.now c.args.given.now (stmt_maybe (option_map stmt_plain i.no)))) (spec.stmt_ops f u c.args.own.now c.args.above.now c.args.given.now (stmt_plain c.args.s.now))
    (ap (λ x. spec.ops f u c.args.above.now false (plain i.test) ++ (spec.stmt_ops f u c.args.own.now c.args.above.now c.args.given.now (stmt_plain x) ++ spec.maybe_stmt f u c.args.own.now c.args.above.now c.args.given.now (stmt_maybe (option_map stmt_plain i.no)))) c.get.ensures ∙ if_parts f u c.args.own.now c.args.above.now c.args.given.now c.args.s.now.node i.test i.yes i.no ∙ sym (ap (spec.stmt_ops f u c.args.own.now c.args.above.now c.args.given.now) (stmt_shaped c.args.s.now (v.If i.test i.yes i.no) (o.If i.test i.yes i.no) i.is (v.outs-If i.test i.yes i.no))))
    (last c.maybe_stmt.result c.args.out.now c.ops-in-If.new.out c.maybe_stmt.new.out _ _ (c.in_ok-ops-in-If.ensures {u = tt} f d u m)
    (last c.maybe_stmt.result c.ops-in-If.new.out c.stmt_ops.new.out c.maybe_stmt.new.out _ _ (c.in_ok-stmt_ops-in-If.ensures {u = tt} f d u m) (c.maybe_stmt.ensures f d u m)))

pub stmt_ops-returns-in_ok-ops-in-While : goal.stmt_ops-returns-in_ok-ops-in-While
stmt_ops-returns-in_ok-ops-in-While t c =
    λ f d u m.
    let i = c.in-While in
    whole c.stmt_ops-in-While.result c.args.out.now c.stmt_ops-in-While.new.out (spec.ops f u c.args.above.now false (plain i.test) ++ spec.stmt_ops f u c.args.own.now c.args.above.now c.args.given.now (stmt_plain c.get-in-While.result.now)) (spec.stmt_ops f u c.args.own.now c.args.above.now c.args.given.now (stmt_plain c.args.s.now))
    (ap (λ x. spec.ops f u c.args.above.now false (plain i.test) ++ spec.stmt_ops f u c.args.own.now c.args.above.now c.args.given.now (stmt_plain x)) c.get-in-While.ensures ∙ sym (ap (spec.stmt_ops f u c.args.own.now c.args.above.now c.args.given.now) (stmt_shaped c.args.s.now (v.While i.test i.body) (o.While i.test i.body) i.is (v.outs-While i.test i.body))))
    (last c.stmt_ops-in-While.result c.args.out.now c.ops-in-While.new.out c.stmt_ops-in-While.new.out _ _ (c.in_ok-ops-in-While.ensures {u = tt} f d u m) (c.stmt_ops-in-While.ensures f d u m))

pub stmt_ops-returns-in_ok-stmt_ops-in-Do : goal.stmt_ops-returns-in_ok-stmt_ops-in-Do
stmt_ops-returns-in_ok-stmt_ops-in-Do t c =
    λ f d u m.
    let i = c.in-Do in
    whole c.ops-in-Do.result c.args.out.now c.ops-in-Do.new.out (spec.stmt_ops f u c.args.own.now c.args.above.now c.args.given.now (stmt_plain c.get-in-Do.result.now) ++ spec.ops f u c.args.above.now false (plain i.test)) (spec.stmt_ops f u c.args.own.now c.args.above.now c.args.given.now (stmt_plain c.args.s.now))
    (ap (λ x. spec.stmt_ops f u c.args.own.now c.args.above.now c.args.given.now (stmt_plain x) ++ spec.ops f u c.args.above.now false (plain i.test)) c.get-in-Do.ensures ∙ sym (ap (spec.stmt_ops f u c.args.own.now c.args.above.now c.args.given.now) (stmt_shaped c.args.s.now (v.Do i.body i.test) (o.Do i.body i.test) i.is (v.outs-Do i.body i.test))))
    (last c.ops-in-Do.result c.args.out.now c.stmt_ops-in-Do.new.out c.ops-in-Do.new.out _ _ (c.in_ok-stmt_ops-in-Do.ensures {u = tt} f d u m) (c.ops-in-Do.ensures f d u m))

pub stmt_ops-returns-in_ok-each_ops-in-For : goal.stmt_ops-returns-in_ok-each_ops-in-For
stmt_ops-returns-in_ok-each_ops-in-For t c =
    λ f d u m.
    let i = c.in-For in
    whole c.stmt_ops-in-For.result c.args.out.now c.stmt_ops-in-For.new.out (spec.stmts_ops f u c.args.own.now c.args.above.now c.args.given.now (stmts_plain c.as_slice-in-For.result.now) ++ (spec.value_ops f u c.args.above.now None (option_map plain i.test) ++ (spec.each_ops f u c.args.above.now (plains c.as_slice-in-For-2.result.now) ++ spec.stmt_ops f u c.args.own.now c.args.above.now c.args.given.now (stmt_plain c.get-in-For.result.now)))) (spec.stmt_ops f u c.args.own.now c.args.above.now c.args.given.now (stmt_plain c.args.s.now))
    (pair (λ ss l. spec.stmts_ops f u c.args.own.now c.args.above.now c.args.given.now (stmts_plain ss) ++ (spec.value_ops f u c.args.above.now None (option_map plain i.test) ++ l)) _ _ _ _ c.as_slice-in-For.ensures
    (pair (λ xs x. spec.each_ops f u c.args.above.now (plains xs) ++ spec.stmt_ops f u c.args.own.now c.args.above.now c.args.given.now (stmt_plain x)) _ _ _ _ c.as_slice-in-For-2.ensures c.get-in-For.ensures) ∙ sym (ap (spec.stmt_ops f u c.args.own.now c.args.above.now c.args.given.now) (stmt_shaped c.args.s.now (v.For i.init i.test i.step i.body) (o.For i.init i.test i.step i.body) i.is (v.outs-For i.init i.test i.step i.body))))
    (last c.stmt_ops-in-For.result c.args.out.now c.stmts_ops-in-For.new.out c.stmt_ops-in-For.new.out _ _ (c.in_ok-stmts_ops-in-For.ensures {u = tt} f d u m)
    (last c.stmt_ops-in-For.result c.stmts_ops-in-For.new.out c.option_ops.new.out c.stmt_ops-in-For.new.out _ _ (c.in_ok-option_ops-in-For.ensures {u = tt} f d u m)
    (last c.stmt_ops-in-For.result c.option_ops.new.out c.each_ops.new.out c.stmt_ops-in-For.new.out _ _ (c.in_ok-each_ops-in-For.ensures {u = tt} f d u m) (c.stmt_ops-in-For.ensures f d u m))))

pub stmt_ops-returns-in_ok-ops-in-ForEach : goal.stmt_ops-returns-in_ok-ops-in-ForEach
stmt_ops-returns-in_ok-ops-in-ForEach t c =
    λ f d u m.
    let i = c.in-ForEach in
    whole c.stmt_ops-in-ForEach.result c.args.out.now c.stmt_ops-in-ForEach.new.out (spec.ops f u c.args.above.now c.is_unchecked_alone-unchecked.result (plain i.over) ++ spec.stmt_ops f u c.args.own.now c.args.above.now c.args.given.now (stmt_plain c.get-in-ForEach.result.now)) (spec.stmt_ops f u c.args.own.now c.args.above.now c.args.given.now (stmt_plain c.args.s.now))
    (pair (λ b x. spec.ops f u c.args.above.now b (plain i.over) ++ spec.stmt_ops f u c.args.own.now c.args.above.now c.args.given.now (stmt_plain x)) _ _ _ _ (c.is_unchecked_alone-unchecked.ensures f d) c.get-in-ForEach.ensures ∙ sym (ap (spec.stmt_ops f u c.args.own.now c.args.above.now c.args.given.now) (stmt_shaped c.args.s.now (v.ForEach i.is_final i.written i.var i.over i.item i.implied i.body) (o.ForEach i.is_final i.written i.var i.over i.item i.implied i.body) i.is (v.outs-ForEach i.is_final i.written i.var i.over i.item i.implied i.body))))
    (last c.stmt_ops-in-ForEach.result c.args.out.now c.ops-in-ForEach.new.out c.stmt_ops-in-ForEach.new.out _ _ (c.in_ok-ops-in-ForEach.ensures {u = tt} f d u m) (c.stmt_ops-in-ForEach.ensures f d u m))

pub stmt_ops-returns-in_ok-ops-in-Switch : goal.stmt_ops-returns-in_ok-ops-in-Switch
stmt_ops-returns-in_ok-ops-in-Switch t c =
    λ f d u m.
    let i = c.in-Switch in
    whole c.group_ops.result c.args.out.now c.group_ops.new.out (spec.ops f u c.args.above.now false (plain i.on) ++ spec.group_ops f u c.args.own.now c.args.above.now c.args.given.now (group_row (map group_plain c.as_slice-in-Switch.result.now))) (spec.stmt_ops f u c.args.own.now c.args.above.now c.args.given.now (stmt_plain c.args.s.now))
    (ap (λ xs. spec.ops f u c.args.above.now false (plain i.on) ++ spec.group_ops f u c.args.own.now c.args.above.now c.args.given.now (group_row (map group_plain xs))) c.as_slice-in-Switch.ensures ∙ sym (ap (spec.stmt_ops f u c.args.own.now c.args.above.now c.args.given.now) (stmt_shaped c.args.s.now (v.Switch i.on i.groups) (o.Switch i.on i.groups) i.is (v.outs-Switch i.on i.groups))))
    (last c.group_ops.result c.args.out.now c.ops-in-Switch.new.out c.group_ops.new.out _ _ (c.in_ok-ops-in-Switch.ensures {u = tt} f d u m) (c.group_ops.ensures f d u m))

pub stmt_ops-returns-in_ok-catch_ops-in-Try : goal.stmt_ops-returns-in_ok-catch_ops-in-Try
stmt_ops-returns-in_ok-catch_ops-in-Try t c =
    λ f d u m.
    let i = c.in-Try in
    whole c.maybe_stmt-in-Try.result c.args.out.now c.maybe_stmt-in-Try.new.out (spec.stmt_ops f u c.args.own.now c.args.above.now c.args.given.now (stmt_plain c.get-in-Try.result.now) ++ (spec.catch_ops f u c.args.own.now c.args.above.now c.args.given.now (catch_row (map catch_plain c.as_slice-in-Try.result.now)) ++ spec.maybe_stmt f u c.args.own.now c.args.above.now c.args.given.now (stmt_maybe (option_map stmt_plain i.last)))) (spec.stmt_ops f u c.args.own.now c.args.above.now c.args.given.now (stmt_plain c.args.s.now))
    (pair (λ x xs. spec.stmt_ops f u c.args.own.now c.args.above.now c.args.given.now (stmt_plain x) ++ (spec.catch_ops f u c.args.own.now c.args.above.now c.args.given.now (catch_row (map catch_plain xs)) ++ spec.maybe_stmt f u c.args.own.now c.args.above.now c.args.given.now (stmt_maybe (option_map stmt_plain i.last)))) _ _ _ _ c.get-in-Try.ensures c.as_slice-in-Try.ensures
    ∙ try_parts f u c.args.own.now c.args.above.now c.args.given.now c.args.s.now.node i.body i.catches i.last ∙ sym (ap (spec.stmt_ops f u c.args.own.now c.args.above.now c.args.given.now) (stmt_shaped c.args.s.now (v.Try i.body i.catches i.last) (o.Try i.body i.catches i.last) i.is (v.outs-Try i.body i.catches i.last))))
    (last c.maybe_stmt-in-Try.result c.args.out.now c.stmt_ops-in-Try.new.out c.maybe_stmt-in-Try.new.out _ _ (c.in_ok-stmt_ops-in-Try.ensures {u = tt} f d u m)
    (last c.maybe_stmt-in-Try.result c.stmt_ops-in-Try.new.out c.catch_ops.new.out c.maybe_stmt-in-Try.new.out _ _ (c.in_ok-catch_ops-in-Try.ensures {u = tt} f d u m) (c.maybe_stmt-in-Try.ensures f d u m)))

pub stmt_ops-returns-in-ThisCall : goal.stmt_ops-returns-in-ThisCall
stmt_ops-returns-in-ThisCall t c =
    λ f d u m.
    let i = c.in-ThisCall in
    whole c.method_args.result c.args.out.now c.method_args.new.out (spec.call_ops f u c.args.above.now c.args.own.now i.constructor (plains c.as_slice-in-ThisCall.result.now)) (spec.stmt_ops f u c.args.own.now c.args.above.now c.args.given.now (stmt_plain c.args.s.now))
    (ap (λ xs. spec.call_ops f u c.args.above.now c.args.own.now i.constructor (plains xs)) c.as_slice-in-ThisCall.ensures ∙ sym (ap (spec.stmt_ops f u c.args.own.now c.args.above.now c.args.given.now) (stmt_shaped c.args.s.now (v.ThisCall i.constructor i.args) (o.ThisCall i.constructor i.args) i.is (v.outs-ThisCall i.constructor i.args))))
    (c.method_args.ensures f d u m)

pub stmt_ops-returns-in-SuperCall : goal.stmt_ops-returns-in-SuperCall
stmt_ops-returns-in-SuperCall t c =
    λ f d u m.
    let i = c.in-SuperCall in
    whole c.method_args-in-SuperCall.result c.args.out.now c.method_args-in-SuperCall.new.out (spec.call_ops f u c.args.above.now c.args.above.now i.constructor (plains c.as_slice-in-SuperCall.result.now)) (spec.stmt_ops f u c.args.own.now c.args.above.now c.args.given.now (stmt_plain c.args.s.now))
    (ap (λ xs. spec.call_ops f u c.args.above.now c.args.above.now i.constructor (plains xs)) c.as_slice-in-SuperCall.ensures ∙ sym (ap (spec.stmt_ops f u c.args.own.now c.args.above.now c.args.given.now) (stmt_shaped c.args.s.now (v.SuperCall i.constructor i.args) (o.SuperCall i.constructor i.args) i.is (v.outs-SuperCall i.constructor i.args))))
    (c.method_args-in-SuperCall.ensures f d u m)

pub stmt_ops-returns-in-Empty : goal.stmt_ops-returns-in-Empty
stmt_ops-returns-in-Empty t c =
    λ f d u m. nothing_more c.args.out.now ∙ ap (λ l. c.args.out.now ++ l) (sym (idle f u c.args.own.now c.args.above.now c.args.given.now c.args.s.now c.in-Empty.is))

pub stmt_ops-returns-in-Empty-2 : goal.stmt_ops-returns-in-Empty-2
stmt_ops-returns-in-Empty-2 t c =
    λ f d u m. nothing_more c.args.out.now ∙ ap (λ l. c.args.out.now ++ l) (sym (idle f u c.args.own.now c.args.above.now c.args.given.now c.args.s.now c.in-Empty.is))

pub stmt_ops-returns-in-Empty-3 : goal.stmt_ops-returns-in-Empty-3
stmt_ops-returns-in-Empty-3 t c =
    λ f d u m. nothing_more c.args.out.now ∙ ap (λ l. c.args.out.now ++ l) (sym (idle f u c.args.own.now c.args.above.now c.args.given.now c.args.s.now c.in-Empty.is))

pub maybe_stmt-returns-in-Some : goal.maybe_stmt-returns-in-Some
maybe_stmt-returns-in-Some t c =
    λ f d u m. whole c.stmt_ops.result c.args.out.now c.stmt_ops.new.out (spec.stmt_ops f u c.args.own.now c.args.above.now c.args.given.now (stmt_plain c.get.result.now)) (spec.maybe_stmt f u c.args.own.now c.args.above.now c.args.given.now (stmt_maybe (option_map stmt_plain c.args.s.now)))
    (ap (λ x. spec.stmt_ops f u c.args.own.now c.args.above.now c.args.given.now (stmt_plain x)) c.get.ensures ∙ maybe_some f u c.args.own.now c.args.above.now c.args.given.now c.args.s.now c.in-Some.s c.in-Some.is) (c.stmt_ops.ensures f d u m)

pub catch_ops-stmt_ops-requires : goal.catch_ops-stmt_ops-requires
catch_ops-stmt_ops-requires t c =
    let low = lower (λ x. stmt_height (stmt_plain (out-CoreCatch x).body)) (λ xs. catches_height (catch_row (map catch_plain xs))) catch_sum c.args.catches.now c.loop-catch.catch-index c.catch-item.result c.loop-catch-test.true c.catch-item.is in
    let same : stmt_height (stmt_plain c.get.result.now) ≡ stmt_height (stmt_plain (out-CoreCatch c.catch-item.result).body) = ap (λ x. stmt_height (stmt_plain x)) c.get.ensures in
    (rw (← c.decreases) (omega (arith, low, same)), c.requires)

pub catch_ops-loop-catch-preserved : goal.catch_ops-loop-catch-preserved
catch_ops-loop-catch-preserved t c =
    λ f d u m. step (λ i xs. spec.catch_ops f u c.args.own.now c.args.above.now c.args.given.now (catch_row (map catch_plain xs))) (λ i x. spec.stmt_ops f u c.args.own.now c.args.above.now c.args.given.now (stmt_plain (out-CoreCatch x).body)) (λ i x xs. catch_first f u c.args.own.now c.args.above.now c.args.given.now x xs) c.args.catches.now c.loop-catch.catch-index c.catch-item.result c.loop-catch.out c.stmt_ops.new.out _
    c.loop-catch-test.true c.catch-item.is (c.in_ok-stmt_ops.ensures {u = tt} f d u m ∙ ap (λ x. c.loop-catch.out ++ spec.stmt_ops f u c.args.own.now c.args.above.now c.args.given.now (stmt_plain x)) c.get.ensures) (c.loop-catch.invariant f d u m)

pub catch_ops-returns : goal.catch_ops-returns
catch_ops-returns t c =
    λ f d u m. ended (λ xs. spec.catch_ops f u c.args.own.now c.args.above.now c.args.given.now (catch_row (map catch_plain xs))) refl c.args.catches.now c.loop-catch.catch-index c.loop-catch.out _ c.loop-catch-test.false (c.loop-catch.invariant f d u m)

pub group_ops-stmts_ops-requires : goal.group_ops-stmts_ops-requires
group_ops-stmts_ops-requires t c =
    let low = lower (λ x. stmts_height (stmts_plain (out-CoreGroup x).body)) (λ xs. groups_height (group_row (map group_plain xs))) group_sum c.args.groups.now c.loop-group.group-index c.group-item.result c.loop-group-test.true c.group-item.is in
    let same : stmts_height (stmts_plain c.as_slice.result.now) ≡ stmts_height (stmts_plain (out-CoreGroup c.group-item.result).body) = ap (λ x. stmts_height (stmts_plain x)) c.as_slice.ensures in
    (rw (← c.decreases) (omega (arith, low, same)), c.requires)

pub group_ops-loop-group-preserved : goal.group_ops-loop-group-preserved
group_ops-loop-group-preserved t c =
    λ f d u m. step (λ i xs. spec.group_ops f u c.args.own.now c.args.above.now c.args.given.now (group_row (map group_plain xs))) (λ i x. spec.stmts_ops f u c.args.own.now c.args.above.now c.args.given.now (stmts_plain (out-CoreGroup x).body)) (λ i x xs. group_first f u c.args.own.now c.args.above.now c.args.given.now x xs) c.args.groups.now c.loop-group.group-index c.group-item.result c.loop-group.out c.stmts_ops.new.out _
    c.loop-group-test.true c.group-item.is (c.in_ok-stmts_ops.ensures {u = tt} f d u m ∙ ap (λ x. c.loop-group.out ++ spec.stmts_ops f u c.args.own.now c.args.above.now c.args.given.now (stmts_plain x)) c.as_slice.ensures) (c.loop-group.invariant f d u m)

pub group_ops-returns : goal.group_ops-returns
group_ops-returns t c =
    λ f d u m. ended (λ xs. spec.group_ops f u c.args.own.now c.args.above.now c.args.given.now (group_row (map group_plain xs))) refl c.args.groups.now c.loop-group.group-index c.loop-group.out _ c.loop-group-test.false (c.loop-group.invariant f d u m)

pub stmts_ops-stmt_ops-requires : goal.stmts_ops-stmt_ops-requires
stmts_ops-stmt_ops-requires t c =
    (rw (← c.decreases) (lower (λ x. stmt_height (stmt_plain x)) (λ xs. stmts_height (stmts_plain xs)) (λ x xs. refl) c.args.stmts.now c.loop-s.s-index c.s-item.result c.loop-s-test.true c.s-item.is), c.requires)

pub stmts_ops-loop-s-preserved : goal.stmts_ops-loop-s-preserved
stmts_ops-loop-s-preserved t c =
    λ f d u m. step (λ i xs. spec.stmts_ops f u c.args.own.now c.args.above.now c.args.given.now (stmts_plain xs)) (λ i x. spec.stmt_ops f u c.args.own.now c.args.above.now c.args.given.now (stmt_plain x)) (λ i x xs. refl) c.args.stmts.now c.loop-s.s-index c.s-item.result c.loop-s.out c.stmt_ops.new.out _
    c.loop-s-test.true c.s-item.is (c.in_ok-stmt_ops.ensures {u = tt} f d u m) (c.loop-s.invariant f d u m)

pub stmts_ops-returns : goal.stmts_ops-returns
stmts_ops-returns t c =
    λ f d u m. ended (λ xs. spec.stmts_ops f u c.args.own.now c.args.above.now c.args.given.now (stmts_plain xs)) refl c.args.stmts.now c.loop-s.s-index c.loop-s.out _ c.loop-s-test.false (c.loop-s.invariant f d u m)

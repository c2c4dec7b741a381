use Rattle.std.proofs.Common.{ap, refl, sym, ◌∙◌, arith}
use Rattle.std.specs.Option.{option_map}
use Rattle.java_core.specs.declared.expr.CoreForm.TheVariants as v
use Rattle.java_core.specs.declared.expr.CoreForm.TheOpen as o
use Rattle.java_core.specs.Plain as p
use Rattle.java_core.specs.View.{maybe, plain, plains}
use Rattle.definite_assignment.specs.Assigned as spec
use Rattle.definite_assignment.proofs.Expressions.{idle, other_target, other_test, static_call, static_field, static_target, target_known, test_known, value_known}
use Rattle.definite_assignment.proofs.Forms.{level}
use Rattle.definite_assignment.proofs.Heights.{height, heights}
use Rattle.definite_assignment.proofs.Oks.{whole}
use Rattle.definite_assignment.proofs.Steps.{finished, lower, step}
use Rattle.definite_assignment.proofs.exprs.+value.Goals as goal

pub value-returns-in-Paren : goal.value-returns-in-Paren
value-returns-in-Paren t c =
    let w = c.args.w.now in
    let h = c.args.home in
    let s = c.args.s.now in
    let i = c.in-Paren in
    whole c.value-in-Paren.result c.value-in-Paren.new.s _ _
    (ap (λ x. spec.value w h (plain x) s) c.get-in-Paren.ensures ∙ value_known w h c.args.e.now (v.Paren i.of) (o.Paren i.of) c.args.s.now i.is (v.outs-Paren i.of))
    c.value-in-Paren.ensures

pub value-returns-in-Widen : goal.value-returns-in-Widen
value-returns-in-Widen t c =
    let w = c.args.w.now in
    let h = c.args.home in
    let s = c.args.s.now in
    let i = c.in-Widen in
    whole c.value-in-Widen.result c.value-in-Widen.new.s _ _
    (ap (λ x. spec.value w h (plain x) s) c.get-in-Widen.ensures ∙ value_known w h c.args.e.now (v.Widen i.of) (o.Widen i.of) c.args.s.now i.is (v.outs-Widen i.of))
    c.value-in-Widen.ensures

pub value-returns-in-Implied : goal.value-returns-in-Implied
value-returns-in-Implied t c =
    let w = c.args.w.now in
    let h = c.args.home in
    let s = c.args.s.now in
    let i = c.in-Implied in
    whole c.value-in-Implied.result c.value-in-Implied.new.s _ _
    (ap (λ x. spec.value w h (plain x) s) c.get-in-Implied.ensures ∙ value_known w h c.args.e.now (v.Implied i.of) (o.Implied i.of) c.args.s.now i.is (v.outs-Implied i.of))
    c.value-in-Implied.ensures

pub value-returns-in-Length : goal.value-returns-in-Length
value-returns-in-Length t c =
    let w = c.args.w.now in
    let h = c.args.home in
    let s = c.args.s.now in
    let i = c.in-Length in
    whole c.value-in-Length.result c.value-in-Length.new.s _ _
    (ap (λ x. spec.value w h (plain x) s) c.get-in-Length.ensures ∙ value_known w h c.args.e.now (v.Length i.of) (o.Length i.of) c.args.s.now i.is (v.outs-Length i.of))
    c.value-in-Length.ensures

pub value-returns-in-NewFilled : goal.value-returns-in-NewFilled
value-returns-in-NewFilled t c =
    let w = c.args.w.now in
    let h = c.args.home in
    let s = c.args.s.now in
    let i = c.in-NewFilled in
    whole c.value-in-NewFilled.result c.value-in-NewFilled.new.s _ _
    (ap (λ x. spec.value w h (plain x) s) c.get-in-NewFilled.ensures ∙ value_known w h c.args.e.now (v.NewFilled i.written i.of) (o.NewFilled i.written i.of) c.args.s.now i.is (v.outs-NewFilled i.written i.of))
    c.value-in-NewFilled.ensures

pub value-returns-in-Unary : goal.value-returns-in-Unary
value-returns-in-Unary t c =
    let w = c.args.w.now in
    let h = c.args.home in
    let s = c.args.s.now in
    let i = c.in-Unary in
    whole c.value-in-Unary.result c.value-in-Unary.new.s _ _
    (ap (λ x. spec.value w h (plain x) s) c.get-in-Unary.ensures ∙ value_known w h c.args.e.now (v.Unary i.op i.of) (o.Unary i.op i.of) c.args.s.now i.is (v.outs-Unary i.op i.of))
    c.value-in-Unary.ensures

pub value-returns-in-Step : goal.value-returns-in-Step
value-returns-in-Step t c =
    let w = c.args.w.now in
    let h = c.args.home in
    let s = c.args.s.now in
    let i = c.in-Step in
    whole c.value-in-Step.result c.value-in-Step.new.s _ _
    (ap (λ x. spec.value w h (plain x) s) c.get-in-Step.ensures ∙ value_known w h c.args.e.now (v.Step i.up i.before i.of) (o.Step i.up i.before i.of) c.args.s.now i.is (v.outs-Step i.up i.before i.of))
    c.value-in-Step.ensures

pub value-returns-in-Cast : goal.value-returns-in-Cast
value-returns-in-Cast t c =
    let w = c.args.w.now in
    let h = c.args.home in
    let s = c.args.s.now in
    let i = c.in-Cast in
    whole c.value-in-Cast.result c.value-in-Cast.new.s _ _
    (ap (λ x. spec.value w h (plain x) s) c.get-in-Cast.ensures ∙ value_known w h c.args.e.now (v.Cast i.written i.close i.of) (o.Cast i.written i.close i.of) c.args.s.now i.is (v.outs-Cast i.written i.close i.of))
    c.value-in-Cast.ensures

pub value-returns-in-InstanceOf : goal.value-returns-in-InstanceOf
value-returns-in-InstanceOf t c =
    let w = c.args.w.now in
    let h = c.args.home in
    let s = c.args.s.now in
    let i = c.in-InstanceOf in
    whole c.value-in-InstanceOf.result c.value-in-InstanceOf.new.s _ _
    (ap (λ x. spec.value w h (plain x) s) c.get-in-InstanceOf.ensures ∙ value_known w h c.args.e.now (v.InstanceOf i.of i.written) (o.InstanceOf i.of i.written) c.args.s.now i.is (v.outs-InstanceOf i.of i.written))
    c.value-in-InstanceOf.ensures

pub value-returns-in_ok-value-in-Index : goal.value-returns-in_ok-value-in-Index
value-returns-in_ok-value-in-Index t c =
    let w = c.args.w.now in
    let h = c.args.home in
    let s = c.args.s.now in
    let i = c.in-Index in
    let mid = c.value-in-Index.new.s in
    whole c.value-in-Index-2.result c.value-in-Index-2.new.s _ _
    (ap (λ x. spec.value w h (plain x) mid) c.get-in-Index-2.ensures
    ∙ ap (λ m. spec.value w h (plain i.at) m) (c.in_ok-value-in-Index.ensures {u = tt} ∙ ap (λ x. spec.value w h (plain x) s) c.get-in-Index.ensures)
    ∙ value_known w h c.args.e.now (v.Index i.of i.at) (o.Index i.of i.at) c.args.s.now i.is (v.outs-Index i.of i.at))
    c.value-in-Index-2.ensures

pub value-returns-in_ok-value-in-Binary : goal.value-returns-in_ok-value-in-Binary
value-returns-in_ok-value-in-Binary t c =
    let w = c.args.w.now in
    let h = c.args.home in
    let s = c.args.s.now in
    let i = c.in-Binary in
    let mid = c.value-in-Binary.new.s in
    whole c.value-in-Binary-2.result c.value-in-Binary-2.new.s _ _
    (ap (λ x. spec.value w h (plain x) mid) c.get-in-Binary-2.ensures
    ∙ ap (λ m. spec.value w h (plain i.right) m) (c.in_ok-value-in-Binary.ensures {u = tt} ∙ ap (λ x. spec.value w h (plain x) s) c.get-in-Binary.ensures)
    ∙ value_known w h c.args.e.now (v.Binary i.op i.kind i.left i.right) (o.Binary i.op i.kind i.left i.right) c.args.s.now i.is (v.outs-Binary i.op i.kind i.left i.right))
    c.value-in-Binary-2.ensures

pub value-returns-in_ok-value-in-Call : goal.value-returns-in_ok-value-in-Call
value-returns-in_ok-value-in-Call t c =
    let w = c.args.w.now in
    let h = c.args.home in
    let s = c.args.s.now in
    let i = c.in-Call in
    let mid = c.value-in-Call.new.s in
    whole c.values.result c.values.new.s _ _
    (ap (λ xs. spec.values w h (plains xs) mid) c.as_slice.ensures
    ∙ ap (λ m. spec.values w h (plains i.args) m) (c.in_ok-value-in-Call.ensures {u = tt} ∙ ap (λ x. spec.value w h (plain x) s) c.get-in-Call.ensures)
    ∙ value_known w h c.args.e.now (v.Call i.of i.simple i.method i.args) (o.Call i.of i.simple i.method i.args) c.args.s.now i.is (v.outs-Call i.of i.simple i.method i.args))
    c.values.ensures

pub value-returns-in_ok-maybe_value-in-StaticCall : goal.value-returns-in_ok-maybe_value-in-StaticCall
value-returns-in_ok-maybe_value-in-StaticCall t c =
    let w = c.args.w.now in
    let h = c.args.home in
    let s = c.args.s.now in
    let i = c.in-StaticCall in
    let mid = c.maybe_value.new.s in
    whole c.values-in-StaticCall.result c.values-in-StaticCall.new.s _ _
    (ap (λ xs. spec.values w h (plains xs) mid) c.as_slice-in-StaticCall.ensures
    ∙ ap (λ m. spec.values w h (plains i.args) m) (c.in_ok-maybe_value-in-StaticCall.ensures {u = tt})
    ∙ static_call w h c.args.e.now.node i.before i.of i.method i.args s
    ∙ value_known w h c.args.e.now (v.StaticCall i.before i.of i.method i.args) (o.StaticCall i.before i.of i.method i.args) c.args.s.now i.is (v.outs-StaticCall i.before i.of i.method i.args))
    c.values-in-StaticCall.ensures

pub value-returns-in-SuperCall : goal.value-returns-in-SuperCall
value-returns-in-SuperCall t c =
    let w = c.args.w.now in
    let h = c.args.home in
    let s = c.args.s.now in
    let i = c.in-SuperCall in
    whole c.values-in-SuperCall.result c.values-in-SuperCall.new.s _ _
    (ap (λ xs. spec.values w h (plains xs) s) c.as_slice-in-SuperCall.ensures ∙ value_known w h c.args.e.now (v.SuperCall i.method i.args) (o.SuperCall i.method i.args) c.args.s.now i.is (v.outs-SuperCall i.method i.args))
    c.values-in-SuperCall.ensures

pub value-returns-in-New : goal.value-returns-in-New
value-returns-in-New t c =
    let w = c.args.w.now in
    let h = c.args.home in
    let s = c.args.s.now in
    let i = c.in-New in
    whole c.values-in-New.result c.values-in-New.new.s _ _
    (ap (λ xs. spec.values w h (plains xs) s) c.as_slice-in-New.ensures ∙ value_known w h c.args.e.now (v.New i.written i.constructor i.args) (o.New i.written i.constructor i.args) c.args.s.now i.is (v.outs-New i.written i.constructor i.args))
    c.values-in-New.ensures

pub value-returns-in-NewArray : goal.value-returns-in-NewArray
value-returns-in-NewArray t c =
    let w = c.args.w.now in
    let h = c.args.home in
    let s = c.args.s.now in
    let i = c.in-NewArray in
    whole c.values-in-NewArray.result c.values-in-NewArray.new.s _ _
    (ap (λ xs. spec.values w h (plains xs) s) c.as_slice-in-NewArray.ensures ∙ value_known w h c.args.e.now (v.NewArray i.written i.sizes) (o.NewArray i.written i.sizes) c.args.s.now i.is (v.outs-NewArray i.written i.sizes))
    c.values-in-NewArray.ensures

pub value-returns-in-Filled : goal.value-returns-in-Filled
value-returns-in-Filled t c =
    let w = c.args.w.now in
    let h = c.args.home in
    let s = c.args.s.now in
    let i = c.in-Filled in
    whole c.values-in-Filled.result c.values-in-Filled.new.s _ _
    (ap (λ xs. spec.values w h (plains xs) s) c.as_slice-in-Filled.ensures ∙ value_known w h c.args.e.now (v.Filled i.items) (o.Filled i.items) c.args.s.now i.is (v.outs-Filled i.items))
    c.values-in-Filled.ensures

pub value-returns-in_ok-logic-in-Logic : goal.value-returns-in_ok-logic-in-Logic
value-returns-in_ok-logic-in-Logic t c =
    let w = c.args.w.now in
    let h = c.args.home in
    let s = c.args.s.now in
    let i = c.in-Logic in
    let a = c.test.new.s in
    let b = c.logic.new.s in
    whole c.merge.result c.merge.new.s _ _
    (ap spec.merged (c.in_ok-logic-in-Logic.ensures {u = tt}
    ∙ ap (λ x. spec.logic i.both (spec.test w h (plain x)) a) c.get-in-Logic-2.ensures
    ∙ ap (λ m. spec.logic i.both (spec.test w h (plain i.right)) m) (c.in_ok-test-in-Logic.ensures {u = tt} ∙ ap (λ x. spec.test w h (plain x) s) c.get-in-Logic.ensures))
    ∙ value_known w h c.args.e.now (v.Logic i.both i.left i.right) (o.Logic i.both i.left i.right) c.args.s.now i.is (v.outs-Logic i.both i.left i.right))
    c.merge.ensures

pub value-returns-in_ok-test-in-Cond : goal.value-returns-in_ok-test-in-Cond
value-returns-in_ok-test-in-Cond t c =
    let w = c.args.w.now in
    let h = c.args.home in
    let s = c.args.s.now in
    let i = c.in-Cond in
    let a = c.test-in-Cond.new.s in
    whole c.arms.result c.arms.new.s _ _
    (ap (λ x. spec.arms (spec.value w h (plain x)) (spec.value w h (plain c.get-in-Cond-3.result.now)) a) c.get-in-Cond-2.ensures
    ∙ ap (λ x. spec.arms (spec.value w h (plain i.yes)) (spec.value w h (plain x)) a) c.get-in-Cond-3.ensures
    ∙ ap (λ m. spec.arms (spec.value w h (plain i.yes)) (spec.value w h (plain i.no)) m) (c.in_ok-test-in-Cond.ensures {u = tt} ∙ ap (λ x. spec.test w h (plain x) s) c.get-in-Cond.ensures)
    ∙ value_known w h c.args.e.now (v.Cond i.of i.yes i.no) (o.Cond i.of i.yes i.no) c.args.s.now i.is (v.outs-Cond i.of i.yes i.no))
    c.arms.ensures

pub value-returns-in_ok-value-in-Assign : goal.value-returns-in_ok-value-in-Assign
value-returns-in_ok-value-in-Assign t c =
    let w = c.args.w.now in
    let h = c.args.home in
    let s = c.args.s.now in
    let i = c.in-Assign in
    let a = c.target.new.s in
    let b = c.value-in-Assign.new.s in
    whole c.assign.result c.assign.new.s _ _
    (ap (λ x. spec.assigned (plain x) b) c.get-in-Assign-3.ensures
    ∙ ap (λ m. spec.assigned (plain i.to) m) (c.in_ok-value-in-Assign.ensures {u = tt}
    ∙ ap (λ x. spec.value w h (plain x) a) c.get-in-Assign-2.ensures
    ∙ ap (λ m. spec.value w h (plain i.from) m) (c.in_ok-target-in-Assign.ensures {u = tt} ∙ ap (λ x. spec.target w h (plain x) s) c.get-in-Assign.ensures))
    ∙ value_known w h c.args.e.now (v.Assign i.to i.from) (o.Assign i.to i.from) c.args.s.now i.is (v.outs-Assign i.to i.from))
    c.assign.ensures

pub value-returns-in_ok-value-in-Compound-2 : goal.value-returns-in_ok-value-in-Compound-2
value-returns-in_ok-value-in-Compound-2 t c =
    let w = c.args.w.now in
    let h = c.args.home in
    let s = c.args.s.now in
    let i = c.in-Compound in
    let a = c.value-in-Compound.new.s in
    let b = c.value-in-Compound-2.new.s in
    whole c.assign-in-Compound.result c.assign-in-Compound.new.s _ _
    (ap (λ x. spec.assigned (plain x) b) c.get-in-Compound-3.ensures
    ∙ ap (λ m. spec.assigned (plain i.to) m) (c.in_ok-value-in-Compound-2.ensures {u = tt}
    ∙ ap (λ x. spec.value w h (plain x) a) c.get-in-Compound-2.ensures
    ∙ ap (λ m. spec.value w h (plain i.from) m) (c.in_ok-value-in-Compound.ensures {u = tt} ∙ ap (λ x. spec.value w h (plain x) s) c.get-in-Compound.ensures))
    ∙ value_known w h c.args.e.now (v.Compound i.op i.kind i.to i.from) (o.Compound i.op i.kind i.to i.from) c.args.s.now i.is (v.outs-Compound i.op i.kind i.to i.from))
    c.assign-in-Compound.ensures

pub value-returns-in-StaticField : goal.value-returns-in-StaticField
value-returns-in-StaticField t c =
    let w = c.args.w.now in
    let h = c.args.home in
    let s = c.args.s.now in
    let i = c.in-StaticField in
    whole c.static_value.result c.static_value.new.s _ _
    (static_field w h c.args.e.now.node i.before i.of i.field s ∙ value_known w h c.args.e.now (v.StaticField i.before i.of i.field) (o.StaticField i.before i.of i.field) c.args.s.now i.is (v.outs-StaticField i.before i.of i.field))
    c.static_value.ensures

pub value-returns-in-Local : goal.value-returns-in-Local
value-returns-in-Local t c =
    let w = c.args.w.now in
    let h = c.args.home in
    let s = c.args.s.now in
    let i = c.in-Local in
    c.use_local.ensures ∙ value_known w h c.args.e.now (v.Local i.slot) (o.Local i.slot) c.args.s.now i.is (v.outs-Local i.slot)

pub value-returns-then-simple : goal.value-returns-then-simple
value-returns-then-simple t c =
    let w = c.args.w.now in
    let h = c.args.home in
    let s = c.args.s.now in
    let i = c.in-Field in
    c.use_field.ensures ∙ ap (λ b. spec.value_form w h c.args.e.now.node (p.Field (plain i.of) b i.field) s) (sym c.if-simple.true) ∙ value_known w h c.args.e.now (v.Field i.of i.simple i.field) (o.Field i.of i.simple i.field) c.args.s.now i.is (v.outs-Field i.of i.simple i.field)

pub value-returns-in-Int : goal.value-returns-in-Int
value-returns-in-Int t c =
    let w = c.args.w.now in
    let h = c.args.home in
    let s = c.args.s.now in
    idle w h c.args.e.now s c.in-Int.is

pub value-returns-in-Int-2 : goal.value-returns-in-Int-2
value-returns-in-Int-2 t c =
    let w = c.args.w.now in
    let h = c.args.home in
    let s = c.args.s.now in
    idle w h c.args.e.now s c.in-Int.is

pub value-returns-in-Int-3 : goal.value-returns-in-Int-3
value-returns-in-Int-3 t c =
    let w = c.args.w.now in
    let h = c.args.home in
    let s = c.args.s.now in
    idle w h c.args.e.now s c.in-Int.is

pub value-returns-in-Int-4 : goal.value-returns-in-Int-4
value-returns-in-Int-4 t c =
    let w = c.args.w.now in
    let h = c.args.home in
    let s = c.args.s.now in
    idle w h c.args.e.now s c.in-Int.is

pub value-returns-in-Int-5 : goal.value-returns-in-Int-5
value-returns-in-Int-5 t c =
    let w = c.args.w.now in
    let h = c.args.home in
    let s = c.args.s.now in
    idle w h c.args.e.now s c.in-Int.is

pub value-returns-in-Int-6 : goal.value-returns-in-Int-6
value-returns-in-Int-6 t c =
    let w = c.args.w.now in
    let h = c.args.home in
    let s = c.args.s.now in
    idle w h c.args.e.now s c.in-Int.is

pub value-returns-in-Int-7 : goal.value-returns-in-Int-7
value-returns-in-Int-7 t c =
    let w = c.args.w.now in
    let h = c.args.home in
    let s = c.args.s.now in
    idle w h c.args.e.now s c.in-Int.is

pub value-returns-in-Int-8 : goal.value-returns-in-Int-8
value-returns-in-Int-8 t c =
    let w = c.args.w.now in
    let h = c.args.home in
    let s = c.args.s.now in
    idle w h c.args.e.now s c.in-Int.is

pub value-returns-else-simple : goal.value-returns-else-simple
value-returns-else-simple t c =
    let w = c.args.w.now in
    let h = c.args.home in
    let s = c.args.s.now in
    let i = c.in-Field in
    whole c.value.result c.value.new.s _ _
    (ap (λ x. spec.value w h (plain x) s) c.get.ensures
    ∙ ap (λ b. spec.value_form w h c.args.e.now.node (p.Field (plain i.of) b i.field) s) (sym c.if-simple.false) ∙ value_known w h c.args.e.now (v.Field i.of i.simple i.field) (o.Field i.of i.simple i.field) c.args.s.now i.is (v.outs-Field i.of i.simple i.field))
    c.value.ensures

pub values-value-requires : goal.values-value-requires
values-value-requires t c =
    let w = c.args.w.now in
    let h = c.args.home in
    let s = c.args.s.now in
    let low = lower (λ x. height (plain x)) (λ xs. heights (plains xs)) (λ x xs. refl) c.args.xs.now c.loop-x.x-index c.x-item.result c.loop-x-test.true c.x-item.is in
    rw (← c.decreases) (omega (arith, low))

pub values-loop-x-preserved : goal.values-loop-x-preserved
values-loop-x-preserved t c =
    let w = c.args.w.now in
    let h = c.args.home in
    let s = c.args.s.now in
    step (λ xs. spec.values w h (plains xs)) (λ x. spec.value w h (plain x)) (λ x xs s. refl) c.args.xs.now c.loop-x.x-index c.x-item.result c.loop-x.s c.value.new.s _ c.loop-x-test.true c.x-item.is
    (c.in_ok-value.ensures {u = tt}) c.loop-x.invariant

pub values-returns : goal.values-returns
values-returns t c =
    let w = c.args.w.now in
    let h = c.args.home in
    let s = c.args.s.now in
    finished (λ xs. spec.values w h (plains xs)) (λ s. refl) c.args.xs.now c.loop-x.x-index c.loop-x.s _ c.loop-x-test.false c.loop-x.invariant

pub maybe_value-returns-in-Some : goal.maybe_value-returns-in-Some
maybe_value-returns-in-Some t c =
    let w = c.args.w.now in
    let h = c.args.home in
    let s = c.args.s.now in
    let i = c.in-Some in
    whole c.value.result c.value.new.s _ _
    (ap (λ x. spec.value w h (plain x) s) c.get.ensures ∙ sym (ap (λ o. spec.maybe_value w h (maybe (option_map plain o)) s) i.is)) c.value.ensures

pub static_value-returns-in-Some : goal.static_value-returns-in-Some
static_value-returns-in-Some t c =
    let w = c.args.w.now in
    let h = c.args.home in
    let s = c.args.s.now in
    let i = c.in-Some in
    whole c.value.result c.value.new.s _ _
    (ap (λ x. spec.value w h (plain x) s) c.get.ensures ∙ sym (ap (λ o. spec.static_value w h c.args.node c.args.before (maybe (option_map plain o)) c.args.field s) i.is)) c.value.ensures

pub static_value-returns-in-None : goal.static_value-returns-in-None
static_value-returns-in-None t c =
    let w = c.args.w.now in
    let h = c.args.home in
    let s = c.args.s.now in
    let i = c.in-None in
    c.use_static.ensures ∙ sym (ap (λ o. spec.static_value w h c.args.node c.args.before (maybe (option_map plain o)) c.args.field s) i.is)

pub target-returns-in-Paren : goal.target-returns-in-Paren
target-returns-in-Paren t c =
    let w = c.args.w.now in
    let h = c.args.home in
    let s = c.args.s.now in
    let i = c.in-Paren in
    whole c.target.result c.target.new.s _ _
    (ap (λ x. spec.target w h (plain x) s) c.get.ensures ∙ target_known w h c.args.e.now (v.Paren i.of) (o.Paren i.of) c.args.s.now i.is (v.outs-Paren i.of))
    c.target.ensures

pub target-returns-then-simple : goal.target-returns-then-simple
target-returns-then-simple t c =
    let w = c.args.w.now in
    let h = c.args.home in
    let s = c.args.s.now in
    let i = c.in-Field in
    ap (λ b. spec.target_form w h (p.Field (plain i.of) b i.field) (spec.value_form w h c.args.e.now.node (p.Field (plain i.of) b i.field)) s) (sym c.if-simple.true) ∙ target_known w h c.args.e.now (v.Field i.of i.simple i.field) (o.Field i.of i.simple i.field) c.args.s.now i.is (v.outs-Field i.of i.simple i.field)

pub target-returns-else-simple : goal.target-returns-else-simple
target-returns-else-simple t c =
    let w = c.args.w.now in
    let h = c.args.home in
    let s = c.args.s.now in
    let i = c.in-Field in
    whole c.value.result c.value.new.s _ _
    (ap (λ x. spec.value w h (plain x) s) c.get-in-Field.ensures
    ∙ ap (λ b. spec.target_form w h (p.Field (plain i.of) b i.field) (spec.value_form w h c.args.e.now.node (p.Field (plain i.of) b i.field)) s) (sym c.if-simple.false) ∙ target_known w h c.args.e.now (v.Field i.of i.simple i.field) (o.Field i.of i.simple i.field) c.args.s.now i.is (v.outs-Field i.of i.simple i.field))
    c.value.ensures

pub target-returns-in-StaticField : goal.target-returns-in-StaticField
target-returns-in-StaticField t c =
    let w = c.args.w.now in
    let h = c.args.home in
    let s = c.args.s.now in
    let i = c.in-StaticField in
    whole c.maybe_value.result c.maybe_value.new.s _ _
    (static_target w h i.before i.of i.field (spec.value_form w h c.args.e.now.node (level (o.StaticField i.before i.of i.field))) s ∙ target_known w h c.args.e.now (v.StaticField i.before i.of i.field) (o.StaticField i.before i.of i.field) c.args.s.now i.is (v.outs-StaticField i.before i.of i.field))
    c.maybe_value.ensures

pub test-returns-in-Truth : goal.test-returns-in-Truth
test-returns-in-Truth t c =
    let w = c.args.w.now in
    let h = c.args.home in
    let s = c.args.s.now in
    let i = c.in-Truth in
    c.tell.ensures ∙ test_known w h c.args.e.now (v.Truth i.truth) (o.Truth i.truth) c.args.s.now i.is (v.outs-Truth i.truth)

pub test-returns-in-Paren : goal.test-returns-in-Paren
test-returns-in-Paren t c =
    let w = c.args.w.now in
    let h = c.args.home in
    let s = c.args.s.now in
    let i = c.in-Paren in
    whole c.test.result c.test.new.s _ _
    (ap (λ x. spec.test w h (plain x) s) c.get.ensures ∙ test_known w h c.args.e.now (v.Paren i.of) (o.Paren i.of) c.args.s.now i.is (v.outs-Paren i.of))
    c.test.ensures

pub test-returns-in_ok-test-in-Logic : goal.test-returns-in_ok-test-in-Logic
test-returns-in_ok-test-in-Logic t c =
    let w = c.args.w.now in
    let h = c.args.home in
    let s = c.args.s.now in
    let i = c.in-Logic in
    let a = c.test-in-Logic.new.s in
    whole c.logic.result c.logic.new.s _ _
    (ap (λ x. spec.logic i.both (spec.test w h (plain x)) a) c.get-in-Logic-2.ensures
    ∙ ap (λ m. spec.logic i.both (spec.test w h (plain i.right)) m) (c.in_ok-test-in-Logic.ensures {u = tt} ∙ ap (λ x. spec.test w h (plain x) s) c.get-in-Logic.ensures)
    ∙ test_known w h c.args.e.now (v.Logic i.both i.left i.right) (o.Logic i.both i.left i.right) c.args.s.now i.is (v.outs-Logic i.both i.left i.right))
    c.logic.ensures

pub test-returns-in_ok-test-in-Cond : goal.test-returns-in_ok-test-in-Cond
test-returns-in_ok-test-in-Cond t c =
    let w = c.args.w.now in
    let h = c.args.home in
    let s = c.args.s.now in
    let i = c.in-Cond in
    let a = c.test-in-Cond.new.s in
    whole c.test_arms.result c.test_arms.new.s _ _
    (ap (λ x. spec.test_arms (spec.test w h (plain x)) (spec.test w h (plain c.get-in-Cond-3.result.now)) a) c.get-in-Cond-2.ensures
    ∙ ap (λ x. spec.test_arms (spec.test w h (plain i.yes)) (spec.test w h (plain x)) a) c.get-in-Cond-3.ensures
    ∙ ap (λ m. spec.test_arms (spec.test w h (plain i.yes)) (spec.test w h (plain i.no)) m) (c.in_ok-test-in-Cond.ensures {u = tt} ∙ ap (λ x. spec.test w h (plain x) s) c.get-in-Cond.ensures)
    ∙ test_known w h c.args.e.now (v.Cond i.of i.yes i.no) (o.Cond i.of i.yes i.no) c.args.s.now i.is (v.outs-Cond i.of i.yes i.no))
    c.test_arms.ensures

pub target-returns-in-Local : goal.target-returns-in-Local
target-returns-in-Local t c =
    let w = c.args.w.now in
    let h = c.args.home in
    let s = c.args.s.now in
    let i = c.in-Local in
    target_known w h c.args.e.now (v.Local i.field-0) (o.Local i.field-0) s i.is (v.outs-Local i.field-0)

pub target-returns-in_default : goal.target-returns-in_default
target-returns-in_default t c =
    let w = c.args.w.now in
    let h = c.args.home in
    let s = c.args.s.now in
    let d = c.in_default in
    whole c.value-in_default.result c.value-in_default.new.s _ _
    (other_target w h c.args.e.now s d.not-Local d.not-Paren d.not-Field d.not-StaticField) c.value-in_default.ensures

pub test-returns-in-Unary : goal.test-returns-in-Unary
test-returns-in-Unary t c =
    let w = c.args.w.now in
    let h = c.args.home in
    let s = c.args.s.now in
    let i = c.in-Unary in
    whole c.unary_test.result c.unary_test.new.s _ _
    (ap (λ x. spec.unary_test i.op (spec.test w h (plain x)) (spec.value w h (plain x)) s) c.get-in-Unary.ensures ∙ test_known w h c.args.e.now (v.Unary i.op i.of) (o.Unary i.op i.of) c.args.s.now i.is (v.outs-Unary i.op i.of))
    c.unary_test.ensures

pub test-returns-in_ok-value-in_default : goal.test-returns-in_ok-value-in_default
test-returns-in_ok-value-in_default t c =
    let w = c.args.w.now in
    let h = c.args.home in
    let s = c.args.s.now in
    let d = c.in_default in
    whole c.tell_alike.result c.tell_alike.new.s _ _
    (ap spec.told_alike (c.in_ok-value-in_default.ensures {u = tt}) ∙ other_test w h c.args.e.now s d.not-Truth d.not-Paren d.not-Unary d.not-Logic d.not-Cond)
    c.tell_alike.ensures

use Rattle.std.proofs.Common.{ap, refl, sym, ◌∙◌}
use Rattle.java_core.specs.declared.expr.CoreForm.TheVariants as v
use Rattle.java_core.specs.declared.expr.CoreForm.TheOpen as o
use Rattle.java_core.specs.View.{plain, plains}
use Rattle.thrown_exceptions.specs.Thrown as spec
use Rattle.thrown_exceptions.proofs.Forms.{leaf, shaped, static_call, static_field}
use Rattle.thrown_exceptions.proofs.Heights.{height, heights}
use Rattle.thrown_exceptions.proofs.Steps.{lower, onto, pair}
use Rattle.thrown_exceptions.proofs.exprs.+value.Goals as goal

pub value-returns-in-Paren : goal.value-returns-in-Paren
value-returns-in-Paren t c =
    λ below is.
    let i = c.in-Paren in
    onto c.value.result c.value.new.state _ _
    (ap (λ x. spec.value c.args.w.now below (plain x) c.args.state.now) c.get.ensures
    ∙ sym (ap (λ x. spec.value c.args.w.now below x c.args.state.now) (shaped c.args.e.now (v.Paren i.of) (o.Paren i.of) i.is (v.outs-Paren i.of))))
    (c.value.ensures below is)

pub value-returns-in-Widen : goal.value-returns-in-Widen
value-returns-in-Widen t c =
    λ below is.
    let i = c.in-Widen in
    onto c.value-in-Widen.result c.value-in-Widen.new.state _ _
    (ap (λ x. spec.value c.args.w.now below (plain x) c.args.state.now) c.get-in-Widen.ensures
    ∙ sym (ap (λ x. spec.value c.args.w.now below x c.args.state.now) (shaped c.args.e.now (v.Widen i.of) (o.Widen i.of) i.is (v.outs-Widen i.of))))
    (c.value-in-Widen.ensures below is)

pub value-returns-in-Implied : goal.value-returns-in-Implied
value-returns-in-Implied t c =
    λ below is.
    let i = c.in-Implied in
    onto c.value-in-Implied.result c.value-in-Implied.new.state _ _
    (ap (λ x. spec.value c.args.w.now below (plain x) c.args.state.now) c.get-in-Implied.ensures
    ∙ sym (ap (λ x. spec.value c.args.w.now below x c.args.state.now) (shaped c.args.e.now (v.Implied i.of) (o.Implied i.of) i.is (v.outs-Implied i.of))))
    (c.value-in-Implied.ensures below is)

pub value-returns-in-Field : goal.value-returns-in-Field
value-returns-in-Field t c =
    λ below is.
    let i = c.in-Field in
    onto c.value-in-Field.result c.value-in-Field.new.state _ _
    (ap (λ x. spec.value c.args.w.now below (plain x) c.args.state.now) c.get-in-Field.ensures
    ∙ sym (ap (λ x. spec.value c.args.w.now below x c.args.state.now) (shaped c.args.e.now (v.Field i.of i.simple i.field) (o.Field i.of i.simple i.field) i.is (v.outs-Field i.of i.simple i.field))))
    (c.value-in-Field.ensures below is)

pub value-returns-in-Length : goal.value-returns-in-Length
value-returns-in-Length t c =
    λ below is.
    let i = c.in-Length in
    onto c.value-in-Length.result c.value-in-Length.new.state _ _
    (ap (λ x. spec.value c.args.w.now below (plain x) c.args.state.now) c.get-in-Length.ensures
    ∙ sym (ap (λ x. spec.value c.args.w.now below x c.args.state.now) (shaped c.args.e.now (v.Length i.of) (o.Length i.of) i.is (v.outs-Length i.of))))
    (c.value-in-Length.ensures below is)

pub value-returns-in-NewFilled : goal.value-returns-in-NewFilled
value-returns-in-NewFilled t c =
    λ below is.
    let i = c.in-NewFilled in
    onto c.value-in-NewFilled.result c.value-in-NewFilled.new.state _ _
    (ap (λ x. spec.value c.args.w.now below (plain x) c.args.state.now) c.get-in-NewFilled.ensures
    ∙ sym (ap (λ x. spec.value c.args.w.now below x c.args.state.now) (shaped c.args.e.now (v.NewFilled i.written i.of) (o.NewFilled i.written i.of) i.is (v.outs-NewFilled i.written i.of))))
    (c.value-in-NewFilled.ensures below is)

pub value-returns-in-Unary : goal.value-returns-in-Unary
value-returns-in-Unary t c =
    λ below is.
    let i = c.in-Unary in
    onto c.value-in-Unary.result c.value-in-Unary.new.state _ _
    (ap (λ x. spec.value c.args.w.now below (plain x) c.args.state.now) c.get-in-Unary.ensures
    ∙ sym (ap (λ x. spec.value c.args.w.now below x c.args.state.now) (shaped c.args.e.now (v.Unary i.op i.of) (o.Unary i.op i.of) i.is (v.outs-Unary i.op i.of))))
    (c.value-in-Unary.ensures below is)

pub value-returns-in-Step : goal.value-returns-in-Step
value-returns-in-Step t c =
    λ below is.
    let i = c.in-Step in
    onto c.value-in-Step.result c.value-in-Step.new.state _ _
    (ap (λ x. spec.value c.args.w.now below (plain x) c.args.state.now) c.get-in-Step.ensures
    ∙ sym (ap (λ x. spec.value c.args.w.now below x c.args.state.now) (shaped c.args.e.now (v.Step i.up i.before i.of) (o.Step i.up i.before i.of) i.is (v.outs-Step i.up i.before i.of))))
    (c.value-in-Step.ensures below is)

pub value-returns-in-Cast : goal.value-returns-in-Cast
value-returns-in-Cast t c =
    λ below is.
    let i = c.in-Cast in
    onto c.value-in-Cast.result c.value-in-Cast.new.state _ _
    (ap (λ x. spec.value c.args.w.now below (plain x) c.args.state.now) c.get-in-Cast.ensures
    ∙ sym (ap (λ x. spec.value c.args.w.now below x c.args.state.now) (shaped c.args.e.now (v.Cast i.written i.close i.of) (o.Cast i.written i.close i.of) i.is (v.outs-Cast i.written i.close i.of))))
    (c.value-in-Cast.ensures below is)

pub value-returns-in-InstanceOf : goal.value-returns-in-InstanceOf
value-returns-in-InstanceOf t c =
    λ below is.
    let i = c.in-InstanceOf in
    onto c.value-in-InstanceOf.result c.value-in-InstanceOf.new.state _ _
    (ap (λ x. spec.value c.args.w.now below (plain x) c.args.state.now) c.get-in-InstanceOf.ensures
    ∙ sym (ap (λ x. spec.value c.args.w.now below x c.args.state.now) (shaped c.args.e.now (v.InstanceOf i.of i.written) (o.InstanceOf i.of i.written) i.is (v.outs-InstanceOf i.of i.written))))
    (c.value-in-InstanceOf.ensures below is)

pub value-returns-in-StaticField : goal.value-returns-in-StaticField
value-returns-in-StaticField t c =
    λ below is.
    let i = c.in-StaticField in
    onto c.maybe_value.result c.maybe_value.new.state _ _
    (static_field c.args.w.now below c.args.e.now i.before i.of i.field c.args.state.now
    ∙ sym (ap (λ x. spec.value c.args.w.now below x c.args.state.now) (shaped c.args.e.now (v.StaticField i.before i.of i.field) (o.StaticField i.before i.of i.field) i.is (v.outs-StaticField i.before i.of i.field))))
    (c.maybe_value.ensures below is)

pub value-returns-in_ok-value-in-Index : goal.value-returns-in_ok-value-in-Index
value-returns-in_ok-value-in-Index t c =
    λ below is.
    let i = c.in-Index in
    onto c.value-in-Index-2.result c.value-in-Index-2.new.state _ _
    (pair (λ x s. spec.value c.args.w.now below (plain x) s) _ _ _ _ c.get-in-Index-2.ensures (c.in_ok-value-in-Index.ensures {u = tt} below is ∙ ap (λ x. spec.value c.args.w.now below (plain x) c.args.state.now) c.get-in-Index.ensures)
    ∙ sym (ap (λ x. spec.value c.args.w.now below x c.args.state.now) (shaped c.args.e.now (v.Index i.of i.at) (o.Index i.of i.at) i.is (v.outs-Index i.of i.at))))
    (c.value-in-Index-2.ensures below is)

pub value-returns-in_ok-value-in-Binary : goal.value-returns-in_ok-value-in-Binary
value-returns-in_ok-value-in-Binary t c =
    λ below is.
    let i = c.in-Binary in
    onto c.value-in-Binary-2.result c.value-in-Binary-2.new.state _ _
    (pair (λ x s. spec.value c.args.w.now below (plain x) s) _ _ _ _ c.get-in-Binary-2.ensures (c.in_ok-value-in-Binary.ensures {u = tt} below is ∙ ap (λ x. spec.value c.args.w.now below (plain x) c.args.state.now) c.get-in-Binary.ensures)
    ∙ sym (ap (λ x. spec.value c.args.w.now below x c.args.state.now) (shaped c.args.e.now (v.Binary i.op i.kind i.left i.right) (o.Binary i.op i.kind i.left i.right) i.is (v.outs-Binary i.op i.kind i.left i.right))))
    (c.value-in-Binary-2.ensures below is)

pub value-returns-in_ok-value-in-Logic : goal.value-returns-in_ok-value-in-Logic
value-returns-in_ok-value-in-Logic t c =
    λ below is.
    let i = c.in-Logic in
    onto c.value-in-Logic-2.result c.value-in-Logic-2.new.state _ _
    (pair (λ x s. spec.value c.args.w.now below (plain x) s) _ _ _ _ c.get-in-Logic-2.ensures (c.in_ok-value-in-Logic.ensures {u = tt} below is ∙ ap (λ x. spec.value c.args.w.now below (plain x) c.args.state.now) c.get-in-Logic.ensures)
    ∙ sym (ap (λ x. spec.value c.args.w.now below x c.args.state.now) (shaped c.args.e.now (v.Logic i.both i.left i.right) (o.Logic i.both i.left i.right) i.is (v.outs-Logic i.both i.left i.right))))
    (c.value-in-Logic-2.ensures below is)

pub value-returns-in_ok-value-in-Assign : goal.value-returns-in_ok-value-in-Assign
value-returns-in_ok-value-in-Assign t c =
    λ below is.
    let i = c.in-Assign in
    onto c.value-in-Assign-2.result c.value-in-Assign-2.new.state _ _
    (pair (λ x s. spec.value c.args.w.now below (plain x) s) _ _ _ _ c.get-in-Assign-2.ensures (c.in_ok-value-in-Assign.ensures {u = tt} below is ∙ ap (λ x. spec.value c.args.w.now below (plain x) c.args.state.now) c.get-in-Assign.ensures)
    ∙ sym (ap (λ x. spec.value c.args.w.now below x c.args.state.now) (shaped c.args.e.now (v.Assign i.to i.from) (o.Assign i.to i.from) i.is (v.outs-Assign i.to i.from))))
    (c.value-in-Assign-2.ensures below is)

pub value-returns-in_ok-value-in-Compound : goal.value-returns-in_ok-value-in-Compound
value-returns-in_ok-value-in-Compound t c =
    λ below is.
    let i = c.in-Compound in
    onto c.value-in-Compound-2.result c.value-in-Compound-2.new.state _ _
    (pair (λ x s. spec.value c.args.w.now below (plain x) s) _ _ _ _ c.get-in-Compound-2.ensures (c.in_ok-value-in-Compound.ensures {u = tt} below is ∙ ap (λ x. spec.value c.args.w.now below (plain x) c.args.state.now) c.get-in-Compound.ensures)
    ∙ sym (ap (λ x. spec.value c.args.w.now below x c.args.state.now) (shaped c.args.e.now (v.Compound i.op i.kind i.to i.from) (o.Compound i.op i.kind i.to i.from) i.is (v.outs-Compound i.op i.kind i.to i.from))))
    (c.value-in-Compound-2.ensures below is)

pub value-returns-in_ok-value-in-Cond-2 : goal.value-returns-in_ok-value-in-Cond-2
value-returns-in_ok-value-in-Cond-2 t c =
    λ below is.
    let i = c.in-Cond in
    onto c.value-in-Cond-3.result c.value-in-Cond-3.new.state _ _
    (pair (λ x s. spec.value c.args.w.now below (plain x) s) _ _ _ _ c.get-in-Cond-3.ensures
    (c.in_ok-value-in-Cond-2.ensures {u = tt} below is ∙ pair (λ x s. spec.value c.args.w.now below (plain x) s) _ _ _ _ c.get-in-Cond-2.ensures (c.in_ok-value-in-Cond.ensures {u = tt} below is ∙ ap (λ x. spec.value c.args.w.now below (plain x) c.args.state.now) c.get-in-Cond.ensures))
    ∙ sym (ap (λ x. spec.value c.args.w.now below x c.args.state.now) (shaped c.args.e.now (v.Cond i.test i.yes i.no) (o.Cond i.test i.yes i.no) i.is (v.outs-Cond i.test i.yes i.no))))
    (c.value-in-Cond-3.ensures below is)

pub value-returns-in_ok-values-in-Call : goal.value-returns-in_ok-values-in-Call
value-returns-in_ok-values-in-Call t c =
    λ below is.
    let i = c.in-Call in
    onto c.called.result c.called.new.state _ _
    (ap (spec.called c.args.w.now below c.args.e.now.node i.method) (c.in_ok-values-in-Call.ensures {u = tt} below is ∙ pair (λ xs s. spec.values c.args.w.now below (plains xs) s) _ _ _ _ c.as_slice.ensures (c.in_ok-value-in-Call.ensures {u = tt} below is ∙ ap (λ x. spec.value c.args.w.now below (plain x) c.args.state.now) c.get-in-Call.ensures))
    ∙ sym (ap (λ x. spec.value c.args.w.now below x c.args.state.now) (shaped c.args.e.now (v.Call i.of i.simple i.method i.args) (o.Call i.of i.simple i.method i.args) i.is (v.outs-Call i.of i.simple i.method i.args))))
    (c.called.ensures below is)

pub value-returns-in_ok-values-in-SuperCall : goal.value-returns-in_ok-values-in-SuperCall
value-returns-in_ok-values-in-SuperCall t c =
    λ below is.
    let i = c.in-SuperCall in
    onto c.called-in-SuperCall.result c.called-in-SuperCall.new.state _ _
    (ap (spec.called c.args.w.now below c.args.e.now.node i.method) (c.in_ok-values-in-SuperCall.ensures {u = tt} below is ∙ pair (λ xs s. spec.values c.args.w.now below (plains xs) s) _ _ _ _ c.as_slice-in-SuperCall.ensures refl)
    ∙ sym (ap (λ x. spec.value c.args.w.now below x c.args.state.now) (shaped c.args.e.now (v.SuperCall i.method i.args) (o.SuperCall i.method i.args) i.is (v.outs-SuperCall i.method i.args))))
    (c.called-in-SuperCall.ensures below is)

pub value-returns-in_ok-values-in-New : goal.value-returns-in_ok-values-in-New
value-returns-in_ok-values-in-New t c =
    λ below is.
    let i = c.in-New in
    onto c.called-in-New.result c.called-in-New.new.state _ _
    (ap (spec.called c.args.w.now below c.args.e.now.node i.constructor) (c.in_ok-values-in-New.ensures {u = tt} below is ∙ pair (λ xs s. spec.values c.args.w.now below (plains xs) s) _ _ _ _ c.as_slice-in-New.ensures refl)
    ∙ sym (ap (λ x. spec.value c.args.w.now below x c.args.state.now) (shaped c.args.e.now (v.New i.written i.constructor i.args) (o.New i.written i.constructor i.args) i.is (v.outs-New i.written i.constructor i.args))))
    (c.called-in-New.ensures below is)

pub value-returns-in_ok-values-in-StaticCall : goal.value-returns-in_ok-values-in-StaticCall
value-returns-in_ok-values-in-StaticCall t c =
    λ below is.
    let i = c.in-StaticCall in
    onto c.called-in-StaticCall.result c.called-in-StaticCall.new.state _ _
    (ap (spec.called c.args.w.now below c.args.e.now.node i.method) (c.in_ok-values-in-StaticCall.ensures {u = tt} below is ∙ pair (λ xs s. spec.values c.args.w.now below (plains xs) s) _ _ _ _ c.as_slice-in-StaticCall.ensures (c.in_ok-maybe_value-in-StaticCall.ensures {u = tt} below is))
    ∙ static_call c.args.w.now below c.args.e.now i.before i.of i.method i.args c.args.state.now
    ∙ sym (ap (λ x. spec.value c.args.w.now below x c.args.state.now) (shaped c.args.e.now (v.StaticCall i.before i.of i.method i.args) (o.StaticCall i.before i.of i.method i.args) i.is (v.outs-StaticCall i.before i.of i.method i.args))))
    (c.called-in-StaticCall.ensures below is)

pub value-returns-in-NewArray : goal.value-returns-in-NewArray
value-returns-in-NewArray t c =
    λ below is.
    let i = c.in-NewArray in
    onto c.values-in-NewArray.result c.values-in-NewArray.new.state _ _
    (ap (λ xs. spec.values c.args.w.now below (plains xs) c.args.state.now) c.as_slice-in-NewArray.ensures
    ∙ sym (ap (λ x. spec.value c.args.w.now below x c.args.state.now) (shaped c.args.e.now (v.NewArray i.written i.sizes) (o.NewArray i.written i.sizes) i.is (v.outs-NewArray i.written i.sizes))))
    (c.values-in-NewArray.ensures below is)

pub value-returns-in-Filled : goal.value-returns-in-Filled
value-returns-in-Filled t c =
    λ below is.
    let i = c.in-Filled in
    onto c.values-in-Filled.result c.values-in-Filled.new.state _ _
    (ap (λ xs. spec.values c.args.w.now below (plains xs) c.args.state.now) c.as_slice-in-Filled.ensures
    ∙ sym (ap (λ x. spec.value c.args.w.now below x c.args.state.now) (shaped c.args.e.now (v.Filled i.items) (o.Filled i.items) i.is (v.outs-Filled i.items))))
    (c.values-in-Filled.ensures below is)

pub value-returns-in-Int : goal.value-returns-in-Int
value-returns-in-Int t c = λ below is. leaf c.args.w.now below c.args.e.now c.args.state.now c.in-Int.is

pub value-returns-in-Int-2 : goal.value-returns-in-Int-2
value-returns-in-Int-2 t c = λ below is. leaf c.args.w.now below c.args.e.now c.args.state.now c.in-Int.is

pub value-returns-in-Int-3 : goal.value-returns-in-Int-3
value-returns-in-Int-3 t c = λ below is. leaf c.args.w.now below c.args.e.now c.args.state.now c.in-Int.is

pub value-returns-in-Int-4 : goal.value-returns-in-Int-4
value-returns-in-Int-4 t c = λ below is. leaf c.args.w.now below c.args.e.now c.args.state.now c.in-Int.is

pub value-returns-in-Int-5 : goal.value-returns-in-Int-5
value-returns-in-Int-5 t c = λ below is. leaf c.args.w.now below c.args.e.now c.args.state.now c.in-Int.is

pub value-returns-in-Int-6 : goal.value-returns-in-Int-6
value-returns-in-Int-6 t c = λ below is. leaf c.args.w.now below c.args.e.now c.args.state.now c.in-Int.is

pub value-returns-in-Int-7 : goal.value-returns-in-Int-7
value-returns-in-Int-7 t c = λ below is. leaf c.args.w.now below c.args.e.now c.args.state.now c.in-Int.is

pub value-returns-in-Int-8 : goal.value-returns-in-Int-8
value-returns-in-Int-8 t c = λ below is. leaf c.args.w.now below c.args.e.now c.args.state.now c.in-Int.is

pub value-returns-in-Int-9 : goal.value-returns-in-Int-9
value-returns-in-Int-9 t c = λ below is. leaf c.args.w.now below c.args.e.now c.args.state.now c.in-Int.is

pub values-value-requires : goal.values-value-requires
values-value-requires t c =
    (rw (← c.decreases) (lower (λ x. height (plain x)) (λ xs. heights (plains xs)) (λ x xs. refl) c.args.xs.now c.loop-x.x-index c.x-item.result c.loop-x-test.true c.x-item.is), c.requires)

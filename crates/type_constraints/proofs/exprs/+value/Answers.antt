use Rattle.std.proofs.Common.{false, ap, refl, sym, ◌∙◌}
use Rattle.std.specs.Option.{option_map}
use Rattle.java_core.specs.declared.expr.CoreForm.TheVariants as v
use Rattle.java_core.specs.declared.expr.CoreForm.TheOpen as o
use Rattle.java_core.specs.View.{maybe, plain, plains}
use Rattle.type_kinds.specs.Kinds.{ty_of}
use Rattle.thrown_exceptions.proofs.Forms.{shaped}
use Rattle.thrown_exceptions.proofs.Heights.{height, heights}
use Rattle.thrown_exceptions.proofs.Steps.{lower, ok_as, pair, step}
use Rattle.type_constraints.specs.Arguments as calls
use Rattle.type_constraints.specs.Asked.{asked}
use Rattle.type_constraints.specs.Changed as flows
use Rattle.type_constraints.specs.Constraints as spec
use Rattle.type_constraints.specs.Uses as uses
use Rattle.type_constraints.proofs.Forms.{leaf, static_call, static_field}
use Rattle.type_constraints.proofs.Steps.{ended, three}
use Rattle.type_constraints.proofs.exprs.+value.Goals as goal

pub value-returns-in-Paren : goal.value-returns-in-Paren
value-returns-in-Paren _ c =
    λ f are t ties.
    let a = asked c.args.at.now f t in
    let i = c.in-Paren in
    ok_as c.value.result _ _
    (ap (λ x. spec.value a (plain x) c.args.first) c.get.ensures
    ∙ sym (ap (λ x. spec.value a x c.args.first) (shaped c.args.e.now (v.Paren i.of) (o.Paren i.of) i.is (v.outs-Paren i.of))))
    (c.value.ensures f are t ties)

pub value-returns-in-Widen : goal.value-returns-in-Widen
value-returns-in-Widen _ c =
    λ f are t ties.
    let a = asked c.args.at.now f t in
    let i = c.in-Widen in
    ok_as c.value-in-Widen.result _ _
    (ap (λ x. spec.value a (plain x) c.args.first) c.get-in-Widen.ensures
    ∙ sym (ap (λ x. spec.value a x c.args.first) (shaped c.args.e.now (v.Widen i.of) (o.Widen i.of) i.is (v.outs-Widen i.of))))
    (c.value-in-Widen.ensures f are t ties)

pub value-returns-in-Implied : goal.value-returns-in-Implied
value-returns-in-Implied _ c =
    λ f are t ties.
    let a = asked c.args.at.now f t in
    let i = c.in-Implied in
    ok_as c.value-in-Implied.result _ _
    (ap (λ x. spec.value a (plain x) c.args.first) c.get-in-Implied.ensures
    ∙ sym (ap (λ x. spec.value a x c.args.first) (shaped c.args.e.now (v.Implied i.of) (o.Implied i.of) i.is (v.outs-Implied i.of))))
    (c.value-in-Implied.ensures f are t ties)

pub value-returns-in-Length : goal.value-returns-in-Length
value-returns-in-Length _ c =
    λ f are t ties.
    let a = asked c.args.at.now f t in
    let i = c.in-Length in
    ok_as c.value-in-Length.result _ _
    (ap (λ x. spec.value a (plain x) c.args.first) c.get-in-Length.ensures
    ∙ sym (ap (λ x. spec.value a x c.args.first) (shaped c.args.e.now (v.Length i.of) (o.Length i.of) i.is (v.outs-Length i.of))))
    (c.value-in-Length.ensures f are t ties)

pub value-returns-in-NewFilled : goal.value-returns-in-NewFilled
value-returns-in-NewFilled _ c =
    λ f are t ties.
    let a = asked c.args.at.now f t in
    let i = c.in-NewFilled in
    ok_as c.value-in-NewFilled.result _ _
    (ap (λ x. spec.value a (plain x) c.args.first) c.get-in-NewFilled.ensures
    ∙ sym (ap (λ x. spec.value a x c.args.first) (shaped c.args.e.now (v.NewFilled i.written i.of) (o.NewFilled i.written i.of) i.is (v.outs-NewFilled i.written i.of))))
    (c.value-in-NewFilled.ensures f are t ties)

pub value-returns-in-Unary : goal.value-returns-in-Unary
value-returns-in-Unary _ c =
    λ f are t ties.
    let a = asked c.args.at.now f t in
    let i = c.in-Unary in
    ok_as c.value-in-Unary.result _ _
    (ap (λ x. spec.value a (plain x) c.args.first) c.get-in-Unary.ensures
    ∙ sym (ap (λ x. spec.value a x c.args.first) (shaped c.args.e.now (v.Unary i.op i.of) (o.Unary i.op i.of) i.is (v.outs-Unary i.op i.of))))
    (c.value-in-Unary.ensures f are t ties)

pub value-returns-in-Step : goal.value-returns-in-Step
value-returns-in-Step _ c =
    λ f are t ties.
    let a = asked c.args.at.now f t in
    let i = c.in-Step in
    ok_as c.value-in-Step.result _ _
    (ap (λ x. spec.value a (plain x) c.args.first) c.get-in-Step.ensures
    ∙ sym (ap (λ x. spec.value a x c.args.first) (shaped c.args.e.now (v.Step i.up i.before i.of) (o.Step i.up i.before i.of) i.is (v.outs-Step i.up i.before i.of))))
    (c.value-in-Step.ensures f are t ties)

pub value-returns-in-Cast : goal.value-returns-in-Cast
value-returns-in-Cast _ c =
    λ f are t ties.
    let a = asked c.args.at.now f t in
    let i = c.in-Cast in
    ok_as c.value-in-Cast.result _ _
    (ap (λ x. spec.value a (plain x) c.args.first) c.get-in-Cast.ensures
    ∙ sym (ap (λ x. spec.value a x c.args.first) (shaped c.args.e.now (v.Cast i.written i.close i.of) (o.Cast i.written i.close i.of) i.is (v.outs-Cast i.written i.close i.of))))
    (c.value-in-Cast.ensures f are t ties)

pub value-returns-in-InstanceOf : goal.value-returns-in-InstanceOf
value-returns-in-InstanceOf _ c =
    λ f are t ties.
    let a = asked c.args.at.now f t in
    let i = c.in-InstanceOf in
    ok_as c.value-in-InstanceOf.result _ _
    (ap (λ x. spec.value a (plain x) c.args.first) c.get-in-InstanceOf.ensures
    ∙ sym (ap (λ x. spec.value a x c.args.first) (shaped c.args.e.now (v.InstanceOf i.of i.written) (o.InstanceOf i.of i.written) i.is (v.outs-InstanceOf i.of i.written))))
    (c.value-in-InstanceOf.ensures f are t ties)

pub value-returns-in_ok-first-in-Field : goal.value-returns-in_ok-first-in-Field
value-returns-in_ok-first-in-Field _ c =
    λ f are t ties.
    let a = asked c.args.at.now f t in
    let i = c.in-Field in
    ok_as c.field_use.result _ _
    (pair (λ x s. uses.field_use a c.args.e.now.node (plain x) i.field s) _ _ _ _ c.get-in-Field-2.ensures (c.in_ok-first-in-Field.ensures f are t ties ∙ ap (λ x. spec.value a (plain x) c.args.first) c.get-in-Field.ensures)
    ∙ sym (ap (λ x. spec.value a x c.args.first) (shaped c.args.e.now (v.Field i.of i.simple i.field) (o.Field i.of i.simple i.field) i.is (v.outs-Field i.of i.simple i.field))))
    (c.field_use.ensures f are t ties)

pub value-returns-in_ok-first-in-StaticField : goal.value-returns-in_ok-first-in-StaticField
value-returns-in_ok-first-in-StaticField _ c =
    λ f are t ties.
    let a = asked c.args.at.now f t in
    let i = c.in-StaticField in
    ok_as c.maybe_field_use.result _ _
    (ap (uses.maybe_field_use a c.args.e.now.node (maybe (option_map plain i.of)) i.field) (c.in_ok-first-in-StaticField.ensures f are t ties)
    ∙ static_field a c.args.e.now i.before i.of i.field c.args.first
    ∙ sym (ap (λ x. spec.value a x c.args.first) (shaped c.args.e.now (v.StaticField i.before i.of i.field) (o.StaticField i.before i.of i.field) i.is (v.outs-StaticField i.before i.of i.field))))
    (c.maybe_field_use.ensures f are t ties)

pub value-returns-in_ok-first-in-Index : goal.value-returns-in_ok-first-in-Index
value-returns-in_ok-first-in-Index _ c =
    λ f are t ties.
    let a = asked c.args.at.now f t in
    let i = c.in-Index in
    ok_as c.value-in-Index-2.result _ _
    (pair (λ x s. spec.value a (plain x) s) _ _ _ _ c.get-in-Index-2.ensures (c.in_ok-first-in-Index.ensures f are t ties ∙ ap (λ x. spec.value a (plain x) c.args.first) c.get-in-Index.ensures)
    ∙ sym (ap (λ x. spec.value a x c.args.first) (shaped c.args.e.now (v.Index i.of i.index) (o.Index i.of i.index) i.is (v.outs-Index i.of i.index))))
    (c.value-in-Index-2.ensures f are t ties)

pub value-returns-in_ok-first-in-Logic : goal.value-returns-in_ok-first-in-Logic
value-returns-in_ok-first-in-Logic _ c =
    λ f are t ties.
    let a = asked c.args.at.now f t in
    let i = c.in-Logic in
    ok_as c.value-in-Logic-2.result _ _
    (pair (λ x s. spec.value a (plain x) s) _ _ _ _ c.get-in-Logic-2.ensures (c.in_ok-first-in-Logic.ensures f are t ties ∙ ap (λ x. spec.value a (plain x) c.args.first) c.get-in-Logic.ensures)
    ∙ sym (ap (λ x. spec.value a x c.args.first) (shaped c.args.e.now (v.Logic i.both i.left i.right) (o.Logic i.both i.left i.right) i.is (v.outs-Logic i.both i.left i.right))))
    (c.value-in-Logic-2.ensures f are t ties)

pub value-returns-in_ok-first-in-Binary-2 : goal.value-returns-in_ok-first-in-Binary-2
value-returns-in_ok-first-in-Binary-2 _ c =
    λ f are t ties.
    let a = asked c.args.at.now f t in
    let i = c.in-Binary in
    ok_as c.joined.result _ _
    (three (λ x y s. flows.joined a i.kind (plain x) (plain y) s) _ _ _ _ _ _ c.get-in-Binary-3.ensures c.get-in-Binary-4.ensures (c.in_ok-first-in-Binary-2.ensures f are t ties ∙ pair (λ x s. spec.value a (plain x) s) _ _ _ _ c.get-in-Binary-2.ensures (c.in_ok-first-in-Binary.ensures f are t ties ∙ ap (λ x. spec.value a (plain x) c.args.first) c.get-in-Binary.ensures))
    ∙ sym (ap (λ x. spec.value a x c.args.first) (shaped c.args.e.now (v.Binary i.op i.kind i.left i.right) (o.Binary i.op i.kind i.left i.right) i.is (v.outs-Binary i.op i.kind i.left i.right))))
    (c.joined.ensures f are t ties)

pub value-returns-in_ok-first-in-Compound-2 : goal.value-returns-in_ok-first-in-Compound-2
value-returns-in_ok-first-in-Compound-2 _ c =
    λ f are t ties.
    let a = asked c.args.at.now f t in
    let i = c.in-Compound in
    ok_as c.appended.result _ _
    (pair (λ x s. flows.appended a i.kind (plain x) s) _ _ _ _ c.get-in-Compound-3.ensures (c.in_ok-first-in-Compound-2.ensures f are t ties ∙ pair (λ x s. spec.value a (plain x) s) _ _ _ _ c.get-in-Compound-2.ensures (c.in_ok-first-in-Compound.ensures f are t ties ∙ ap (λ x. spec.value a (plain x) c.args.first) c.get-in-Compound.ensures))
    ∙ sym (ap (λ x. spec.value a x c.args.first) (shaped c.args.e.now (v.Compound i.op i.kind i.to i.from) (o.Compound i.op i.kind i.to i.from) i.is (v.outs-Compound i.op i.kind i.to i.from))))
    (c.appended.ensures f are t ties)

pub value-returns-in_ok-first-in-Assign-2 : goal.value-returns-in_ok-first-in-Assign-2
value-returns-in_ok-first-in-Assign-2 _ c =
    λ f are t ties.
    let a = asked c.args.at.now f t in
    let i = c.in-Assign in
    ok_as c.assigned.result _ _
    (three (λ x y s. flows.flow a (flows.changed a (plain x)) (ty_of (plain x)) (plain y) s) _ _ _ _ _ _ c.get-in-Assign-3.ensures c.get-in-Assign-4.ensures (c.in_ok-first-in-Assign-2.ensures f are t ties ∙ pair (λ x s. spec.value a (plain x) s) _ _ _ _ c.get-in-Assign-2.ensures (c.in_ok-first-in-Assign.ensures f are t ties ∙ ap (λ x. spec.value a (plain x) c.args.first) c.get-in-Assign.ensures))
    ∙ sym (ap (λ x. spec.value a x c.args.first) (shaped c.args.e.now (v.Assign i.to i.from) (o.Assign i.to i.from) i.is (v.outs-Assign i.to i.from))))
    (c.assigned.ensures f are t ties)

pub value-returns-in_ok-first-in-Cond-3 : goal.value-returns-in_ok-first-in-Cond-3
value-returns-in_ok-first-in-Cond-3 _ c =
    λ f are t ties.
    let a = asked c.args.at.now f t in
    let i = c.in-Cond in
    ok_as c.arms.result _ _
    (three (λ x y s. flows.arms a c.args.e.now.node (plain x) (plain y) s) _ _ _ _ _ _ c.get-in-Cond-4.ensures c.get-in-Cond-5.ensures (c.in_ok-first-in-Cond-3.ensures f are t ties ∙ pair (λ x s. spec.value a (plain x) s) _ _ _ _ c.get-in-Cond-3.ensures (c.in_ok-first-in-Cond-2.ensures f are t ties ∙ pair (λ x s. spec.value a (plain x) s) _ _ _ _ c.get-in-Cond-2.ensures (c.in_ok-first-in-Cond.ensures f are t ties ∙ ap (λ x. spec.value a (plain x) c.args.first) c.get-in-Cond.ensures)))
    ∙ sym (ap (λ x. spec.value a x c.args.first) (shaped c.args.e.now (v.Cond i.test i.yes i.no) (o.Cond i.test i.yes i.no) i.is (v.outs-Cond i.test i.yes i.no))))
    (c.arms.ensures f are t ties)

pub value-returns-in_ok-first-in-Call-2 : goal.value-returns-in_ok-first-in-Call-2
value-returns-in_ok-first-in-Call-2 _ c =
    λ f are t ties.
    let a = asked c.args.at.now f t in
    let i = c.in-Call in
    ok_as c.called.result _ _
    (three (λ x xs s. calls.arguments a i.simple (ty_of (plain x)) i.method (plains xs) (uses.method_use a c.args.e.now.node (plain x) i.method s)) _ _ _ _ _ _ c.get-in-Call-2.ensures c.as_slice-args.ensures (c.in_ok-first-in-Call-2.ensures f are t ties ∙ pair (λ xs s. spec.values a (plains xs) s) _ _ _ _ c.as_slice-args.ensures (c.in_ok-first-in-Call.ensures f are t ties ∙ ap (λ x. spec.value a (plain x) c.args.first) c.get-in-Call.ensures))
    ∙ sym (ap (λ x. spec.value a x c.args.first) (shaped c.args.e.now (v.Call i.of i.simple i.method i.args) (o.Call i.of i.simple i.method i.args) i.is (v.outs-Call i.of i.simple i.method i.args))))
    (c.called.ensures f are t ties)

pub value-returns-in_ok-first-in-SuperCall : goal.value-returns-in_ok-first-in-SuperCall
value-returns-in_ok-first-in-SuperCall _ c =
    λ f are t ties.
    let a = asked c.args.at.now f t in
    let i = c.in-SuperCall in
    ok_as c.super_arguments.result _ _
    (pair (λ xs s. calls.arguments a false (calls.super_type a) i.method (plains xs) s) _ _ _ _ c.as_slice-args-in-SuperCall.ensures (c.in_ok-first-in-SuperCall.ensures f are t ties ∙ ap (λ xs. spec.values a (plains xs) c.args.first) c.as_slice-args-in-SuperCall.ensures)
    ∙ sym (ap (λ x. spec.value a x c.args.first) (shaped c.args.e.now (v.SuperCall i.method i.args) (o.SuperCall i.method i.args) i.is (v.outs-SuperCall i.method i.args))))
    (c.super_arguments.ensures f are t ties)

pub value-returns-in_ok-first-in-StaticCall-2 : goal.value-returns-in_ok-first-in-StaticCall-2
value-returns-in_ok-first-in-StaticCall-2 _ c =
    λ f are t ties.
    let a = asked c.args.at.now f t in
    let i = c.in-StaticCall in
    ok_as c.called_static.result _ _
    (pair (λ xs s. calls.static_arguments a i.before (maybe (option_map plain i.of)) i.method (plains xs) (uses.maybe_method_use a c.args.e.now.node (maybe (option_map plain i.of)) i.method s)) _ _ _ _ c.as_slice-args-in-StaticCall.ensures (c.in_ok-first-in-StaticCall-2.ensures f are t ties ∙ pair (λ xs s. spec.values a (plains xs) s) _ _ _ _ c.as_slice-args-in-StaticCall.ensures (c.in_ok-first-in-StaticCall.ensures f are t ties))
    ∙ static_call a c.args.e.now i.before i.of i.method i.args c.args.first
    ∙ sym (ap (λ x. spec.value a x c.args.first) (shaped c.args.e.now (v.StaticCall i.before i.of i.method i.args) (o.StaticCall i.before i.of i.method i.args) i.is (v.outs-StaticCall i.before i.of i.method i.args))))
    (c.called_static.ensures f are t ties)

pub value-returns-in_ok-first-in-New : goal.value-returns-in_ok-first-in-New
value-returns-in_ok-first-in-New _ c =
    λ f are t ties.
    let a = asked c.args.at.now f t in
    let i = c.in-New in
    ok_as c.arguments.result _ _
    (pair (λ xs s. calls.arguments a false c.args.e.now.ty i.constructor (plains xs) s) _ _ _ _ c.as_slice-args-in-New.ensures (c.in_ok-first-in-New.ensures f are t ties ∙ ap (λ xs. spec.values a (plains xs) c.args.first) c.as_slice-args-in-New.ensures)
    ∙ sym (ap (λ x. spec.value a x c.args.first) (shaped c.args.e.now (v.New i.written i.constructor i.args) (o.New i.written i.constructor i.args) i.is (v.outs-New i.written i.constructor i.args))))
    (c.arguments.ensures f are t ties)

pub value-returns-in-NewArray : goal.value-returns-in-NewArray
value-returns-in-NewArray _ c =
    λ f are t ties.
    let a = asked c.args.at.now f t in
    let i = c.in-NewArray in
    ok_as c.values-in-NewArray.result _ _
    (ap (λ xs. spec.values a (plains xs) c.args.first) c.as_slice.ensures
    ∙ sym (ap (λ x. spec.value a x c.args.first) (shaped c.args.e.now (v.NewArray i.written i.sizes) (o.NewArray i.written i.sizes) i.is (v.outs-NewArray i.written i.sizes))))
    (c.values-in-NewArray.ensures f are t ties)

pub value-returns-in_ok-first-in-Filled : goal.value-returns-in_ok-first-in-Filled
value-returns-in_ok-first-in-Filled _ c =
    λ f are t ties.
    let a = asked c.args.at.now f t in
    let i = c.in-Filled in
    ok_as c.items.result _ _
    (pair (λ xs s. flows.items a c.args.e.now.ty (plains xs) s) _ _ _ _ c.as_slice-xs.ensures (c.in_ok-first-in-Filled.ensures f are t ties ∙ ap (λ xs. spec.values a (plains xs) c.args.first) c.as_slice-xs.ensures)
    ∙ sym (ap (λ x. spec.value a x c.args.first) (shaped c.args.e.now (v.Filled i.xs) (o.Filled i.xs) i.is (v.outs-Filled i.xs))))
    (c.items.ensures f are t ties)

pub value-returns-in-Int : goal.value-returns-in-Int
value-returns-in-Int _ c = λ f are t ties. leaf (asked c.args.at.now f t) c.args.e.now c.args.first c.in-Int.is

pub value-returns-in-Int-2 : goal.value-returns-in-Int-2
value-returns-in-Int-2 _ c = λ f are t ties. leaf (asked c.args.at.now f t) c.args.e.now c.args.first c.in-Int.is

pub value-returns-in-Int-3 : goal.value-returns-in-Int-3
value-returns-in-Int-3 _ c = λ f are t ties. leaf (asked c.args.at.now f t) c.args.e.now c.args.first c.in-Int.is

pub value-returns-in-Int-4 : goal.value-returns-in-Int-4
value-returns-in-Int-4 _ c = λ f are t ties. leaf (asked c.args.at.now f t) c.args.e.now c.args.first c.in-Int.is

pub value-returns-in-Int-5 : goal.value-returns-in-Int-5
value-returns-in-Int-5 _ c = λ f are t ties. leaf (asked c.args.at.now f t) c.args.e.now c.args.first c.in-Int.is

pub value-returns-in-Int-6 : goal.value-returns-in-Int-6
value-returns-in-Int-6 _ c = λ f are t ties. leaf (asked c.args.at.now f t) c.args.e.now c.args.first c.in-Int.is

pub value-returns-in-Int-7 : goal.value-returns-in-Int-7
value-returns-in-Int-7 _ c = λ f are t ties. leaf (asked c.args.at.now f t) c.args.e.now c.args.first c.in-Int.is

pub value-returns-in-Int-8 : goal.value-returns-in-Int-8
value-returns-in-Int-8 _ c = λ f are t ties. leaf (asked c.args.at.now f t) c.args.e.now c.args.first c.in-Int.is

pub value-returns-in-Int-9 : goal.value-returns-in-Int-9
value-returns-in-Int-9 _ c = λ f are t ties. leaf (asked c.args.at.now f t) c.args.e.now c.args.first c.in-Int.is

pub maybe_value-returns-in-Some : goal.maybe_value-returns-in-Some
maybe_value-returns-in-Some _ c =
    λ f are t ties.
    let a = asked c.args.at.now f t in
    ok_as c.value.result _ _
    (ap (λ x. spec.value a (plain x) c.args.first) c.get.ensures ∙ sym (ap (λ o. spec.maybe_value a (maybe (option_map plain o)) c.args.first) c.in-Some.is))
    (c.value.ensures f are t ties)

pub values-loop-x-preserved : goal.values-loop-x-preserved
values-loop-x-preserved _ c =
    λ f are t ties.
    let a = asked c.args.at.now f t in
    step (λ xs s. spec.values a (plains xs) s) (λ x s. spec.value a (plain x) s) (λ x xs s. refl)
    c.args.xs.now c.loop-x.x-index c.x-item.result c.loop-x.first c.in_ok-first.first _ c.loop-x-test.true c.x-item.is
    (c.in_ok-first.ensures f are t ties) (c.loop-x.invariant f are t ties)

pub values-returns : goal.values-returns
values-returns _ c =
    λ f are t ties. ended (λ xs s. spec.values (asked c.args.at.now f t) (plains xs) s) (λ s. refl) c.args.xs.now c.loop-x.x-index c.loop-x.first _ c.loop-x-test.false (c.loop-x.invariant f are t ties)

pub values-value-requires : goal.values-value-requires
values-value-requires _ c =
    (rw (← c.decreases) (lower (λ x. height (plain x)) (λ xs. heights (plains xs)) (λ x xs. refl) c.args.xs.now c.loop-x.x-index c.x-item.result c.loop-x-test.true c.x-item.is), c.requires)

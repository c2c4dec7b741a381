use Rattle.std.proofs.Common.{false, ◌++◌, ap, refl, sym, ◌∙◌}
use Rattle.class_world.specs.declared.world.World.{World}
use Rattle.class_world.specs.declared.world.JavaType.{JavaType}
use Rattle.std.specs.Option.{option_map}
use Rattle.std.specs.Prelude.{Some, slice_get}
use Rattle.java_core.specs.declared.expr.CoreExpr.{CoreExpr}
use Rattle.java_core.specs.declared.expr.CoreForm.TheVariants as v
use Rattle.java_core.specs.declared.expr.CoreForm.TheOpen as o
use Rattle.java_core.specs.View.{form_plain, maybe, plain, plains}
use Rattle.java_core.proofs.Views.{plain_at}
use Rattle.type_kinds.specs.Kinds.{element}
use Rattle.unchecked_ops.specs.Operations as spec
use Rattle.type_kinds.specs.Members.{method_at}
use Rattle.unchecked_ops.specs.Raw.{declared_params, params_on}
use Rattle.unchecked_ops.proofs.Arms.{ended, last, leaf, maybe_some, no_parts, node, pair, static_call, static_field, ty_at, whole}
use Rattle.unchecked_ops.proofs.Forms.{shaped}
use Rattle.unchecked_ops.proofs.Heights.{height, heights}
use Rattle.unchecked_ops.proofs.Steps.{lower, step}
use Rattle.unchecked_ops.proofs.exprs.+ops.Goals as goal

pub ops-returns-in-Implied : goal.ops-returns-in-Implied
ops-returns-in-Implied t c =
    λ f d u m.
    let i = c.in-Implied in
    node f u c.args.above.now c.args.here c.args.e.now _ c.ops.result c.args.out.now c.note.new.out c.ops.new.out (spec.ops f u c.args.above.now c.args.here (plain c.get.result.now))
    (shaped c.args.e.now (v.Implied i.of) (o.Implied i.of) i.is (v.outs-Implied i.of)) (c.in_ok-note.ensures {u = tt} f d u m)
    (ap (λ x. spec.ops f u c.args.above.now c.args.here (plain x)) c.get.ensures)
    (c.ops.ensures f d u m)

pub ops-returns-in-Widen : goal.ops-returns-in-Widen
ops-returns-in-Widen t c =
    λ f d u m.
    let i = c.in-Widen in
    node f u c.args.above.now c.args.here c.args.e.now _ c.ops-in-Widen.result c.args.out.now c.note.new.out c.ops-in-Widen.new.out (spec.ops f u c.args.above.now c.args.here (plain c.get-in-Widen.result.now))
    (shaped c.args.e.now (v.Widen i.of) (o.Widen i.of) i.is (v.outs-Widen i.of)) (c.in_ok-note.ensures {u = tt} f d u m)
    (ap (λ x. spec.ops f u c.args.above.now c.args.here (plain x)) c.get-in-Widen.ensures)
    (c.ops-in-Widen.ensures f d u m)

pub ops-returns-in-Paren : goal.ops-returns-in-Paren
ops-returns-in-Paren t c =
    λ f d u m.
    let i = c.in-Paren in
    node f u c.args.above.now c.args.here c.args.e.now _ c.ops-in-Paren.result c.args.out.now c.note.new.out c.ops-in-Paren.new.out (spec.ops f u c.args.above.now false (plain c.get-in-Paren.result.now))
    (shaped c.args.e.now (v.Paren i.of) (o.Paren i.of) i.is (v.outs-Paren i.of)) (c.in_ok-note.ensures {u = tt} f d u m)
    (ap (λ x. spec.ops f u c.args.above.now false (plain x)) c.get-in-Paren.ensures)
    (c.ops-in-Paren.ensures f d u m)

pub ops-returns-in-Field : goal.ops-returns-in-Field
ops-returns-in-Field t c =
    λ f d u m.
    let i = c.in-Field in
    node f u c.args.above.now c.args.here c.args.e.now _ c.ops-in-Field.result c.args.out.now c.note.new.out c.ops-in-Field.new.out (spec.ops f u c.args.above.now false (plain c.get-in-Field.result.now))
    (shaped c.args.e.now (v.Field i.of i.simple i.field) (o.Field i.of i.simple i.field) i.is (v.outs-Field i.of i.simple i.field)) (c.in_ok-note.ensures {u = tt} f d u m)
    (ap (λ x. spec.ops f u c.args.above.now false (plain x)) c.get-in-Field.ensures)
    (c.ops-in-Field.ensures f d u m)

pub ops-returns-in-Length : goal.ops-returns-in-Length
ops-returns-in-Length t c =
    λ f d u m.
    let i = c.in-Length in
    node f u c.args.above.now c.args.here c.args.e.now _ c.ops-in-Length.result c.args.out.now c.note.new.out c.ops-in-Length.new.out (spec.ops f u c.args.above.now false (plain c.get-in-Length.result.now))
    (shaped c.args.e.now (v.Length i.of) (o.Length i.of) i.is (v.outs-Length i.of)) (c.in_ok-note.ensures {u = tt} f d u m)
    (ap (λ x. spec.ops f u c.args.above.now false (plain x)) c.get-in-Length.ensures)
    (c.ops-in-Length.ensures f d u m)

pub ops-returns-in-NewFilled : goal.ops-returns-in-NewFilled
ops-returns-in-NewFilled t c =
    λ f d u m.
    let i = c.in-NewFilled in
    node f u c.args.above.now c.args.here c.args.e.now _ c.ops-in-NewFilled.result c.args.out.now c.note.new.out c.ops-in-NewFilled.new.out (spec.ops f u c.args.above.now false (plain c.get-in-NewFilled.result.now))
    (shaped c.args.e.now (v.NewFilled i.written i.of) (o.NewFilled i.written i.of) i.is (v.outs-NewFilled i.written i.of)) (c.in_ok-note.ensures {u = tt} f d u m)
    (ap (λ x. spec.ops f u c.args.above.now false (plain x)) c.get-in-NewFilled.ensures)
    (c.ops-in-NewFilled.ensures f d u m)

pub ops-returns-in-Unary : goal.ops-returns-in-Unary
ops-returns-in-Unary t c =
    λ f d u m.
    let i = c.in-Unary in
    node f u c.args.above.now c.args.here c.args.e.now _ c.ops-in-Unary.result c.args.out.now c.note.new.out c.ops-in-Unary.new.out (spec.ops f u c.args.above.now false (plain c.get-in-Unary.result.now))
    (shaped c.args.e.now (v.Unary i.op i.of) (o.Unary i.op i.of) i.is (v.outs-Unary i.op i.of)) (c.in_ok-note.ensures {u = tt} f d u m)
    (ap (λ x. spec.ops f u c.args.above.now false (plain x)) c.get-in-Unary.ensures)
    (c.ops-in-Unary.ensures f d u m)

pub ops-returns-in-Step : goal.ops-returns-in-Step
ops-returns-in-Step t c =
    λ f d u m.
    let i = c.in-Step in
    node f u c.args.above.now c.args.here c.args.e.now _ c.ops-in-Step.result c.args.out.now c.note.new.out c.ops-in-Step.new.out (spec.ops f u c.args.above.now false (plain c.get-in-Step.result.now))
    (shaped c.args.e.now (v.Step i.up i.before i.of) (o.Step i.up i.before i.of) i.is (v.outs-Step i.up i.before i.of)) (c.in_ok-note.ensures {u = tt} f d u m)
    (ap (λ x. spec.ops f u c.args.above.now false (plain x)) c.get-in-Step.ensures)
    (c.ops-in-Step.ensures f d u m)

pub ops-returns-in-Cast : goal.ops-returns-in-Cast
ops-returns-in-Cast t c =
    λ f d u m.
    let i = c.in-Cast in
    node f u c.args.above.now c.args.here c.args.e.now _ c.ops-in-Cast.result c.args.out.now c.note.new.out c.ops-in-Cast.new.out (spec.ops f u c.args.above.now false (plain c.get-in-Cast.result.now))
    (shaped c.args.e.now (v.Cast i.written i.close i.of) (o.Cast i.written i.close i.of) i.is (v.outs-Cast i.written i.close i.of)) (c.in_ok-note.ensures {u = tt} f d u m)
    (ap (λ x. spec.ops f u c.args.above.now false (plain x)) c.get-in-Cast.ensures)
    (c.ops-in-Cast.ensures f d u m)

pub ops-returns-in-InstanceOf : goal.ops-returns-in-InstanceOf
ops-returns-in-InstanceOf t c =
    λ f d u m.
    let i = c.in-InstanceOf in
    node f u c.args.above.now c.args.here c.args.e.now _ c.ops-in-InstanceOf.result c.args.out.now c.note.new.out c.ops-in-InstanceOf.new.out (spec.ops f u c.args.above.now false (plain c.get-in-InstanceOf.result.now))
    (shaped c.args.e.now (v.InstanceOf i.of i.written) (o.InstanceOf i.of i.written) i.is (v.outs-InstanceOf i.of i.written)) (c.in_ok-note.ensures {u = tt} f d u m)
    (ap (λ x. spec.ops f u c.args.above.now false (plain x)) c.get-in-InstanceOf.ensures)
    (c.ops-in-InstanceOf.ensures f d u m)

pub ops-returns-in_ok-ops-in-Index : goal.ops-returns-in_ok-ops-in-Index
ops-returns-in_ok-ops-in-Index t c =
    λ f d u m.
    let i = c.in-Index in
    node f u c.args.above.now c.args.here c.args.e.now _ c.ops-in-Index-2.result c.args.out.now c.note.new.out c.ops-in-Index-2.new.out (spec.ops f u c.args.above.now false (plain c.get-in-Index.result.now) ++ spec.ops f u c.args.above.now false (plain c.get-in-Index-2.result.now))
    (shaped c.args.e.now (v.Index i.of i.at) (o.Index i.of i.at) i.is (v.outs-Index i.of i.at)) (c.in_ok-note.ensures {u = tt} f d u m)
    (pair (λ x y. spec.ops f u c.args.above.now false (plain x) ++ spec.ops f u c.args.above.now false (plain y)) _ _ _ _ c.get-in-Index.ensures c.get-in-Index-2.ensures)
    (last c.ops-in-Index-2.result c.note.new.out c.ops-in-Index.new.out c.ops-in-Index-2.new.out _ _ (c.in_ok-ops-in-Index.ensures {u = tt} f d u m) (c.ops-in-Index-2.ensures f d u m))

pub ops-returns-in_ok-ops-in-Binary : goal.ops-returns-in_ok-ops-in-Binary
ops-returns-in_ok-ops-in-Binary t c =
    λ f d u m.
    let i = c.in-Binary in
    node f u c.args.above.now c.args.here c.args.e.now _ c.ops-in-Binary-2.result c.args.out.now c.note.new.out c.ops-in-Binary-2.new.out (spec.ops f u c.args.above.now false (plain c.get-in-Binary.result.now) ++ spec.ops f u c.args.above.now false (plain c.get-in-Binary-2.result.now))
    (shaped c.args.e.now (v.Binary i.op i.kind i.left i.right) (o.Binary i.op i.kind i.left i.right) i.is (v.outs-Binary i.op i.kind i.left i.right)) (c.in_ok-note.ensures {u = tt} f d u m)
    (pair (λ x y. spec.ops f u c.args.above.now false (plain x) ++ spec.ops f u c.args.above.now false (plain y)) _ _ _ _ c.get-in-Binary.ensures c.get-in-Binary-2.ensures)
    (last c.ops-in-Binary-2.result c.note.new.out c.ops-in-Binary.new.out c.ops-in-Binary-2.new.out _ _ (c.in_ok-ops-in-Binary.ensures {u = tt} f d u m) (c.ops-in-Binary-2.ensures f d u m))

pub ops-returns-in_ok-ops-in-Logic : goal.ops-returns-in_ok-ops-in-Logic
ops-returns-in_ok-ops-in-Logic t c =
    λ f d u m.
    let i = c.in-Logic in
    node f u c.args.above.now c.args.here c.args.e.now _ c.ops-in-Logic-2.result c.args.out.now c.note.new.out c.ops-in-Logic-2.new.out (spec.ops f u c.args.above.now false (plain c.get-in-Logic.result.now) ++ spec.ops f u c.args.above.now false (plain c.get-in-Logic-2.result.now))
    (shaped c.args.e.now (v.Logic i.both i.left i.right) (o.Logic i.both i.left i.right) i.is (v.outs-Logic i.both i.left i.right)) (c.in_ok-note.ensures {u = tt} f d u m)
    (pair (λ x y. spec.ops f u c.args.above.now false (plain x) ++ spec.ops f u c.args.above.now false (plain y)) _ _ _ _ c.get-in-Logic.ensures c.get-in-Logic-2.ensures)
    (last c.ops-in-Logic-2.result c.note.new.out c.ops-in-Logic.new.out c.ops-in-Logic-2.new.out _ _ (c.in_ok-ops-in-Logic.ensures {u = tt} f d u m) (c.ops-in-Logic-2.ensures f d u m))

pub ops-returns-in_ok-ops-in-Compound : goal.ops-returns-in_ok-ops-in-Compound
ops-returns-in_ok-ops-in-Compound t c =
    λ f d u m.
    let i = c.in-Compound in
    node f u c.args.above.now c.args.here c.args.e.now _ c.ops-in-Compound-2.result c.args.out.now c.note.new.out c.ops-in-Compound-2.new.out (spec.ops f u c.args.above.now false (plain c.get-in-Compound.result.now) ++ spec.ops f u c.args.above.now false (plain c.get-in-Compound-2.result.now))
    (shaped c.args.e.now (v.Compound i.op i.kind i.to i.from) (o.Compound i.op i.kind i.to i.from) i.is (v.outs-Compound i.op i.kind i.to i.from)) (c.in_ok-note.ensures {u = tt} f d u m)
    (pair (λ x y. spec.ops f u c.args.above.now false (plain x) ++ spec.ops f u c.args.above.now false (plain y)) _ _ _ _ c.get-in-Compound.ensures c.get-in-Compound-2.ensures)
    (last c.ops-in-Compound-2.result c.note.new.out c.ops-in-Compound.new.out c.ops-in-Compound-2.new.out _ _ (c.in_ok-ops-in-Compound.ensures {u = tt} f d u m) (c.ops-in-Compound-2.ensures f d u m))

pub ops-returns-in_ok-ops-in-Assign : goal.ops-returns-in_ok-ops-in-Assign
ops-returns-in_ok-ops-in-Assign t c =
    λ f d u m.
    let i = c.in-Assign in
    node f u c.args.above.now c.args.here c.args.e.now _ c.ops-in-Assign-2.result c.args.out.now c.note.new.out c.ops-in-Assign-2.new.out (spec.ops f u c.args.above.now false (plain c.get-in-Assign.result.now) ++ spec.ops f u c.args.above.now c.is_for-unchecked.result (plain c.get-in-Assign-3.result.now))
    (shaped c.args.e.now (v.Assign i.to i.from) (o.Assign i.to i.from) i.is (v.outs-Assign i.to i.from)) (c.in_ok-note.ensures {u = tt} f d u m)
    (pair (λ x y. spec.ops f u c.args.above.now false (plain x) ++ spec.ops f u c.args.above.now c.is_for-unchecked.result (plain y)) _ _ _ _ c.get-in-Assign.ensures c.get-in-Assign-3.ensures
    ∙ ap (λ b. spec.ops f u c.args.above.now false (plain i.to) ++ spec.ops f u c.args.above.now b (plain i.from))
    (c.is_for-unchecked.ensures f d ∙ ap (λ x. spec.converts f (Some c.args.e.now.ty) (plain x)) c.get-in-Assign-2.ensures))
    (last c.ops-in-Assign-2.result c.note.new.out c.ops-in-Assign.new.out c.ops-in-Assign-2.new.out _ _ (c.in_ok-ops-in-Assign.ensures {u = tt} f d u m) (c.ops-in-Assign-2.ensures f d u m))

pub ops-returns-in_ok-ops-in-Cond-2 : goal.ops-returns-in_ok-ops-in-Cond-2
ops-returns-in_ok-ops-in-Cond-2 t c =
    λ f d u m.
    let i = c.in-Cond in
    node f u c.args.above.now c.args.here c.args.e.now _ c.ops-in-Cond-3.result c.args.out.now c.note.new.out c.ops-in-Cond-3.new.out (spec.ops f u c.args.above.now false (plain c.get-in-Cond.result.now) ++ (spec.ops f u c.args.above.now false (plain c.get-in-Cond-2.result.now) ++ spec.ops f u c.args.above.now false (plain c.get-in-Cond-3.result.now)))
    (shaped c.args.e.now (v.Cond i.test i.yes i.no) (o.Cond i.test i.yes i.no) i.is (v.outs-Cond i.test i.yes i.no)) (c.in_ok-note.ensures {u = tt} f d u m)
    (pair (λ x l. spec.ops f u c.args.above.now false (plain x) ++ l) _ _ _ _ c.get-in-Cond.ensures
    (pair (λ x y. spec.ops f u c.args.above.now false (plain x) ++ spec.ops f u c.args.above.now false (plain y)) _ _ _ _ c.get-in-Cond-2.ensures c.get-in-Cond-3.ensures))
    (last c.ops-in-Cond-3.result c.note.new.out c.ops-in-Cond.new.out c.ops-in-Cond-3.new.out _ _ (c.in_ok-ops-in-Cond.ensures {u = tt} f d u m)
    (last c.ops-in-Cond-3.result c.ops-in-Cond.new.out c.ops-in-Cond-2.new.out c.ops-in-Cond-3.new.out _ _ (c.in_ok-ops-in-Cond-2.ensures {u = tt} f d u m) (c.ops-in-Cond-3.ensures f d u m)))

pub ops-returns-in_ok-ops-in-Call : goal.ops-returns-in_ok-ops-in-Call
ops-returns-in_ok-ops-in-Call t c =
    λ f d u m.
    let i = c.in-Call in
    node f u c.args.above.now c.args.here c.args.e.now _ c.method_args.result c.args.out.now c.note.new.out c.method_args.new.out (spec.ops f u c.args.above.now false (plain c.get-in-Call.result.now) ++ spec.args f u c.args.above.now (params_on f c.get-in-Call-2.result.now.ty (method_at f.world i.method)) 0 (plains c.as_slice.result.now))
    (shaped c.args.e.now (v.Call i.of i.simple i.method i.args) (o.Call i.of i.simple i.method i.args) i.is (v.outs-Call i.of i.simple i.method i.args)) (c.in_ok-note.ensures {u = tt} f d u m)
    (pair (λ x l. spec.ops f u c.args.above.now false (plain x) ++ l) _ _ _ _ c.get-in-Call.ensures
    (pair (λ (t : JavaType) xs. spec.args f u c.args.above.now (params_on f t (method_at f.world i.method)) 0 (plains xs)) _ _ _ _ (ap (λ (x : CoreExpr). x.ty) c.get-in-Call-2.ensures ∙ ty_at i.of) c.as_slice.ensures))
    (last c.method_args.result c.note.new.out c.ops-in-Call.new.out c.method_args.new.out _ _ (c.in_ok-ops-in-Call.ensures {u = tt} f d u m) (c.method_args.ensures f d u m))

pub ops-returns-in-SuperCall : goal.ops-returns-in-SuperCall
ops-returns-in-SuperCall t c =
    λ f d u m.
    let i = c.in-SuperCall in
    node f u c.args.above.now c.args.here c.args.e.now _ c.method_args-in-SuperCall.result c.args.out.now c.note.new.out c.method_args-in-SuperCall.new.out (spec.args f u c.args.above.now (params_on f c.args.above.now (method_at f.world i.method)) 0 (plains c.as_slice-in-SuperCall.result.now))
    (shaped c.args.e.now (v.SuperCall i.method i.args) (o.SuperCall i.method i.args) i.is (v.outs-SuperCall i.method i.args)) (c.in_ok-note.ensures {u = tt} f d u m)
    (ap (λ xs. spec.args f u c.args.above.now (params_on f c.args.above.now (method_at f.world i.method)) 0 (plains xs)) c.as_slice-in-SuperCall.ensures)
    (c.method_args-in-SuperCall.ensures f d u m)

pub ops-returns-in-New : goal.ops-returns-in-New
ops-returns-in-New t c =
    λ f d u m.
    let i = c.in-New in
    node f u c.args.above.now c.args.here c.args.e.now _ c.method_args-in-New.result c.args.out.now c.note.new.out c.method_args-in-New.new.out (spec.args f u c.args.above.now (params_on f c.args.e.now.ty (method_at f.world i.constructor)) 0 (plains c.as_slice-in-New.result.now))
    (shaped c.args.e.now (v.New i.written i.constructor i.args) (o.New i.written i.constructor i.args) i.is (v.outs-New i.written i.constructor i.args)) (c.in_ok-note.ensures {u = tt} f d u m)
    (ap (λ xs. spec.args f u c.args.above.now (params_on f c.args.e.now.ty (method_at f.world i.constructor)) 0 (plains xs)) c.as_slice-in-New.ensures)
    (c.method_args-in-New.ensures f d u m)

pub ops-returns-in-NewArray : goal.ops-returns-in-NewArray
ops-returns-in-NewArray t c =
    λ f d u m.
    let i = c.in-NewArray in
    node f u c.args.above.now c.args.here c.args.e.now _ c.each_ops.result c.args.out.now c.note.new.out c.each_ops.new.out (spec.each_ops f u c.args.above.now (plains c.as_slice-in-NewArray.result.now))
    (shaped c.args.e.now (v.NewArray i.written i.sizes) (o.NewArray i.written i.sizes) i.is (v.outs-NewArray i.written i.sizes)) (c.in_ok-note.ensures {u = tt} f d u m)
    (ap (λ xs. spec.each_ops f u c.args.above.now (plains xs)) c.as_slice-in-NewArray.ensures)
    (c.each_ops.ensures f d u m)

pub ops-returns-in-Filled : goal.ops-returns-in-Filled
ops-returns-in-Filled t c =
    λ f d u m.
    let i = c.in-Filled in
    node f u c.args.above.now c.args.here c.args.e.now _ c.item_ops.result c.args.out.now c.note.new.out c.item_ops.new.out (spec.item_ops f u c.args.above.now c.args.e.now.ty (plains c.as_slice-in-Filled.result.now))
    (shaped c.args.e.now (v.Filled i.items) (o.Filled i.items) i.is (v.outs-Filled i.items)) (c.in_ok-note.ensures {u = tt} f d u m)
    (ap (λ xs. spec.item_ops f u c.args.above.now c.args.e.now.ty (plains xs)) c.as_slice-in-Filled.ensures)
    (c.item_ops.ensures f d u m)

pub ops-returns-in-StaticField : goal.ops-returns-in-StaticField
ops-returns-in-StaticField t c =
    λ f d u m.
    let i = c.in-StaticField in
    node f u c.args.above.now c.args.here c.args.e.now _ c.maybe_ops.result c.args.out.now c.note.new.out c.maybe_ops.new.out (spec.maybe_ops f u c.args.above.now (maybe (option_map plain i.of)))
    (shaped c.args.e.now (v.StaticField i.before i.of i.field) (o.StaticField i.before i.of i.field) i.is (v.outs-StaticField i.before i.of i.field)) (c.in_ok-note.ensures {u = tt} f d u m)
    (static_field f u c.args.above.now c.args.here c.args.e.now.ty i.before i.of i.field)
    (c.maybe_ops.ensures f d u m)

pub ops-returns-in_ok-maybe_ops-in-StaticCall : goal.ops-returns-in_ok-maybe_ops-in-StaticCall
ops-returns-in_ok-maybe_ops-in-StaticCall t c =
    λ f d u m.
    let i = c.in-StaticCall in
    node f u c.args.above.now c.args.here c.args.e.now _ c.static_args.result c.args.out.now c.note.new.out c.static_args.new.out (spec.maybe_ops f u c.args.above.now (maybe (option_map plain i.of)) ++ spec.args f u c.args.above.now (declared_params (method_at f.world i.method)) 0 (plains c.as_slice-in-StaticCall.result.now))
    (shaped c.args.e.now (v.StaticCall i.before i.of i.method i.args) (o.StaticCall i.before i.of i.method i.args) i.is (v.outs-StaticCall i.before i.of i.method i.args)) (c.in_ok-note.ensures {u = tt} f d u m)
    (ap (λ xs. spec.maybe_ops f u c.args.above.now (maybe (option_map plain i.of)) ++ spec.args f u c.args.above.now (declared_params (method_at f.world i.method)) 0 (plains xs)) c.as_slice-in-StaticCall.ensures ∙ static_call f u c.args.above.now c.args.here c.args.e.now.ty i.before i.of i.method i.args)
    (last c.static_args.result c.note.new.out c.maybe_ops-in-StaticCall.new.out c.static_args.new.out _ _ (c.in_ok-maybe_ops-in-StaticCall.ensures {u = tt} f d u m) (c.static_args.ensures f d u m))

pub ops-returns-in-Int : goal.ops-returns-in-Int
ops-returns-in-Int t c =
    λ f d u m. leaf f u c.args.above.now c.args.here c.args.e.now (form_plain c.args.e.now.form) c.args.out.now c.note.new.out (plain_at c.args.e.now) (c.in_ok-note.ensures {u = tt} f d u m)
    (no_parts f u c.args.above.now c.args.here c.args.e.now.ty c.args.e.now.form c.in-Int.is)

pub ops-returns-in-Int-2 : goal.ops-returns-in-Int-2
ops-returns-in-Int-2 t c =
    λ f d u m. leaf f u c.args.above.now c.args.here c.args.e.now (form_plain c.args.e.now.form) c.args.out.now c.note.new.out (plain_at c.args.e.now) (c.in_ok-note.ensures {u = tt} f d u m)
    (no_parts f u c.args.above.now c.args.here c.args.e.now.ty c.args.e.now.form c.in-Int.is)

pub ops-returns-in-Int-3 : goal.ops-returns-in-Int-3
ops-returns-in-Int-3 t c =
    λ f d u m. leaf f u c.args.above.now c.args.here c.args.e.now (form_plain c.args.e.now.form) c.args.out.now c.note.new.out (plain_at c.args.e.now) (c.in_ok-note.ensures {u = tt} f d u m)
    (no_parts f u c.args.above.now c.args.here c.args.e.now.ty c.args.e.now.form c.in-Int.is)

pub ops-returns-in-Int-4 : goal.ops-returns-in-Int-4
ops-returns-in-Int-4 t c =
    λ f d u m. leaf f u c.args.above.now c.args.here c.args.e.now (form_plain c.args.e.now.form) c.args.out.now c.note.new.out (plain_at c.args.e.now) (c.in_ok-note.ensures {u = tt} f d u m)
    (no_parts f u c.args.above.now c.args.here c.args.e.now.ty c.args.e.now.form c.in-Int.is)

pub ops-returns-in-Int-5 : goal.ops-returns-in-Int-5
ops-returns-in-Int-5 t c =
    λ f d u m. leaf f u c.args.above.now c.args.here c.args.e.now (form_plain c.args.e.now.form) c.args.out.now c.note.new.out (plain_at c.args.e.now) (c.in_ok-note.ensures {u = tt} f d u m)
    (no_parts f u c.args.above.now c.args.here c.args.e.now.ty c.args.e.now.form c.in-Int.is)

pub ops-returns-in-Int-6 : goal.ops-returns-in-Int-6
ops-returns-in-Int-6 t c =
    λ f d u m. leaf f u c.args.above.now c.args.here c.args.e.now (form_plain c.args.e.now.form) c.args.out.now c.note.new.out (plain_at c.args.e.now) (c.in_ok-note.ensures {u = tt} f d u m)
    (no_parts f u c.args.above.now c.args.here c.args.e.now.ty c.args.e.now.form c.in-Int.is)

pub ops-returns-in-Int-7 : goal.ops-returns-in-Int-7
ops-returns-in-Int-7 t c =
    λ f d u m. leaf f u c.args.above.now c.args.here c.args.e.now (form_plain c.args.e.now.form) c.args.out.now c.note.new.out (plain_at c.args.e.now) (c.in_ok-note.ensures {u = tt} f d u m)
    (no_parts f u c.args.above.now c.args.here c.args.e.now.ty c.args.e.now.form c.in-Int.is)

pub ops-returns-in-Int-8 : goal.ops-returns-in-Int-8
ops-returns-in-Int-8 t c =
    λ f d u m. leaf f u c.args.above.now c.args.here c.args.e.now (form_plain c.args.e.now.form) c.args.out.now c.note.new.out (plain_at c.args.e.now) (c.in_ok-note.ensures {u = tt} f d u m)
    (no_parts f u c.args.above.now c.args.here c.args.e.now.ty c.args.e.now.form c.in-Int.is)

pub ops-returns-in-Int-9 : goal.ops-returns-in-Int-9
ops-returns-in-Int-9 t c =
    λ f d u m. leaf f u c.args.above.now c.args.here c.args.e.now (form_plain c.args.e.now.form) c.args.out.now c.note.new.out (plain_at c.args.e.now) (c.in_ok-note.ensures {u = tt} f d u m)
    (no_parts f u c.args.above.now c.args.here c.args.e.now.ty c.args.e.now.form c.in-Int.is)

pub maybe_ops-returns-in-Some : goal.maybe_ops-returns-in-Some
maybe_ops-returns-in-Some t c =
    λ f d u m. whole c.ops.result c.args.out.now c.ops.new.out (spec.ops f u c.args.above.now false (plain c.get.result.now)) (spec.maybe_ops f u c.args.above.now (maybe (option_map plain c.args.of.now)))
    (ap (λ x. spec.ops f u c.args.above.now false (plain x)) c.get.ensures ∙ maybe_some f u c.args.above.now c.args.of.now c.in-Some.of c.in-Some.is) (c.ops.ensures f d u m)

pub method_args-returns : goal.method_args-returns
method_args-returns t c =
    λ f d u m. whole c.args-2.result c.args.out.now c.args-2.new.out _ _
    (ap (λ ts. spec.args f u c.args.above.now ts 0 (plains c.args.xs.now)) (c.as_slice.ensures ∙ c.in_ok-params.ensures f d)) (c.args-2.ensures f d u m)

pub static_args-returns-in-None : goal.static_args-returns-in-None
static_args-returns-in-None t c =
    λ f d u m. whole c.args-in-None.result c.args.out.now c.args-in-None.new.out _ _
    (ap (λ k. spec.args f u c.args.above.now (declared_params k) 0 (plains c.args.xs.now)) (c.in-None.ensures.value ∙ ap (λ (w : World). slice_get w.methods c.args.method) (sym d.world))) (c.args-in-None.ensures f d u m)

pub static_args-returns-in-Some : goal.static_args-returns-in-Some
static_args-returns-in-Some t c =
    λ f d u m. whole c.args-in-Some.result c.args.out.now c.args-in-Some.new.out _ _
    (ap (λ ts. spec.args f u c.args.above.now ts 0 (plains c.args.xs.now)) c.as_slice.ensures
    ∙ ap (λ k. spec.args f u c.args.above.now (declared_params k) 0 (plains c.args.xs.now)) (c.in-Some.ensures.value ∙ ap (λ (w : World). slice_get w.methods c.args.method) (sym d.world))) (c.args-in-Some.ensures f d u m)

pub each_ops-ops-requires : goal.each_ops-ops-requires
each_ops-ops-requires t c =
    (rw (← c.decreases) (lower (λ x. height (plain x)) (λ xs. heights (plains xs)) (λ x xs. refl) c.args.xs.now c.loop-x.x-index c.x-item.result c.loop-x-test.true c.x-item.is), c.requires)

pub each_ops-loop-x-preserved : goal.each_ops-loop-x-preserved
each_ops-loop-x-preserved t c =
    λ f d u m. step (λ i xs. spec.each_ops f u c.args.above.now (plains xs)) (λ i x. spec.ops f u c.args.above.now false (plain x)) (λ i x xs. refl) c.args.xs.now c.loop-x.x-index c.x-item.result c.loop-x.out c.ops.new.out _
    c.loop-x-test.true c.x-item.is (c.in_ok-ops.ensures {u = tt} f d u m) (c.loop-x.invariant f d u m)

pub each_ops-returns : goal.each_ops-returns
each_ops-returns t c =
    λ f d u m. ended (λ xs. spec.each_ops f u c.args.above.now (plains xs)) refl c.args.xs.now c.loop-x.x-index c.loop-x.out _ c.loop-x-test.false (c.loop-x.invariant f d u m)

pub item_ops-ops-requires : goal.item_ops-ops-requires
item_ops-ops-requires t c =
    (rw (← c.decreases) (lower (λ x. height (plain x)) (λ xs. heights (plains xs)) (λ x xs. refl) c.args.xs.now c.loop-x.x-index c.x-item.result c.loop-x-test.true c.x-item.is), c.requires)

pub item_ops-loop-x-preserved : goal.item_ops-loop-x-preserved
item_ops-loop-x-preserved t c =
    λ f d u m. step (λ i xs. spec.item_ops f u c.args.above.now c.args.ty.now (plains xs)) (λ i x. spec.ops f u c.args.above.now (spec.converts f (element c.args.ty.now) (plain x)) (plain x)) (λ i x xs. refl) c.args.xs.now c.loop-x.x-index c.x-item.result c.loop-x.out c.ops.new.out _
    c.loop-x-test.true c.x-item.is (c.in_ok-ops.ensures {u = tt} f d u m ∙ ap (λ b. c.loop-x.out ++ spec.ops f u c.args.above.now b (plain c.x-item.result)) (c.is_for_item-unchecked.ensures f d)) (c.loop-x.invariant f d u m)

pub item_ops-returns : goal.item_ops-returns
item_ops-returns t c =
    λ f d u m. ended (λ xs. spec.item_ops f u c.args.above.now c.args.ty.now (plains xs)) refl c.args.xs.now c.loop-x.x-index c.loop-x.out _ c.loop-x-test.false (c.loop-x.invariant f d u m)

pub args-ops-requires : goal.args-ops-requires
args-ops-requires t c =
    (rw (← c.decreases) (lower (λ x. height (plain x)) (λ xs. heights (plains xs)) (λ x xs. refl) c.args.xs.now c.loop-i.i c.index-xs-i.result c.loop-i-test.true c.index-xs-i.is), c.requires)

pub args-loop-i-preserved : goal.args-loop-i-preserved
args-loop-i-preserved t c =
    λ f d u m. step (λ i xs. spec.args f u c.args.above.now c.args.ts.now i (plains xs)) (λ i x. spec.ops f u c.args.above.now (spec.converts f (slice_get c.args.ts.now i) (plain x)) (plain x)) (λ i x xs. refl) c.args.xs.now c.loop-i.i c.index-xs-i.result c.loop-i.out c.ops.new.out _
    c.loop-i-test.true c.index-xs-i.is (c.in_ok-ops.ensures {u = tt} f d u m ∙ ap (λ b. c.loop-i.out ++ spec.ops f u c.args.above.now b (plain c.index-xs-i.result)) (c.is_for_param-unchecked.ensures f d)) (c.loop-i.invariant f d u m)

pub args-returns : goal.args-returns
args-returns t c =
    λ f d u m. ended (λ xs. spec.args f u c.args.above.now c.args.ts.now c.loop-i.i (plains xs)) refl c.args.xs.now c.loop-i.i c.loop-i.out _ c.loop-i-test.false (c.loop-i.invariant f d u m)

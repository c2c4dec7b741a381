use Rattle.std.proofs.Common.{false, Some, ap, refl, sym, ◌∙◌}
use Rattle.std.specs.Option.{option_map}
use Rattle.java_core.specs.declared.expr.CoreForm.TheVariants as v
use Rattle.java_core.specs.declared.expr.CoreForm.TheOpen as o
use Rattle.java_core.specs.Plain as p
use Rattle.java_core.specs.View.{maybe, plain, plains, written}
use Rattle.class_places.proofs.Heights.{height, heights}
use Rattle.class_places.proofs.Steps.{lower, pair, step}
use Rattle.marked_types.specs.Marked.{marked_inside}
use Rattle.type_constraints.proofs.Steps.{ended, three}
use Rattle.extract_constraints.specs.Arguments as calls
use Rattle.extract_constraints.specs.Flows.{arms, class_of, initialise}
use Rattle.extract_constraints.specs.Links as spec
use Rattle.extract_constraints.specs.Receivers.{field_use, maybe_field_use}
use Rattle.extract_constraints.specs.Told.{where_of}
use Rattle.extract_constraints.proofs.Expressions.{leaf, static_call, static_field}
use Rattle.marked_types.proofs.Forms.{level, ok_as, shaped}
use Rattle.extract_constraints.proofs.exprs.+value.Goals as goal

pub value-returns-in-Paren : goal.value-returns-in-Paren
value-returns-in-Paren _ c =
    λ k told.
    let a = where_of c.args.at.now in
    let ls = c.args.locals.now in
    let e = c.args.e.now in
    let i = c.in-Paren in
    ok_as c.value.result _ _
    (ap (λ x. spec.value k a ls (plain x) c.args.links) c.get.ensures
    ∙ sym (ap (λ x. spec.value k a ls x c.args.links) (shaped e (v.Paren i.of) (o.Paren i.of) i.is (v.outs-Paren i.of))))
    (c.value.ensures k told)

pub value-returns-in-Widen : goal.value-returns-in-Widen
value-returns-in-Widen _ c =
    λ k told.
    let a = where_of c.args.at.now in
    let ls = c.args.locals.now in
    let e = c.args.e.now in
    let i = c.in-Widen in
    ok_as c.value-in-Widen.result _ _
    (ap (λ x. spec.value k a ls (plain x) c.args.links) c.get-in-Widen.ensures
    ∙ sym (ap (λ x. spec.value k a ls x c.args.links) (shaped e (v.Widen i.of) (o.Widen i.of) i.is (v.outs-Widen i.of))))
    (c.value-in-Widen.ensures k told)

pub value-returns-in-Implied : goal.value-returns-in-Implied
value-returns-in-Implied _ c =
    λ k told.
    let a = where_of c.args.at.now in
    let ls = c.args.locals.now in
    let e = c.args.e.now in
    let i = c.in-Implied in
    ok_as c.value-in-Implied.result _ _
    (ap (λ x. spec.value k a ls (plain x) c.args.links) c.get-in-Implied.ensures
    ∙ sym (ap (λ x. spec.value k a ls x c.args.links) (shaped e (v.Implied i.of) (o.Implied i.of) i.is (v.outs-Implied i.of))))
    (c.value-in-Implied.ensures k told)

pub value-returns-in-Length : goal.value-returns-in-Length
value-returns-in-Length _ c =
    λ k told.
    let a = where_of c.args.at.now in
    let ls = c.args.locals.now in
    let e = c.args.e.now in
    let i = c.in-Length in
    ok_as c.value-in-Length.result _ _
    (ap (λ x. spec.value k a ls (plain x) c.args.links) c.get-in-Length.ensures
    ∙ sym (ap (λ x. spec.value k a ls x c.args.links) (shaped e (v.Length i.of) (o.Length i.of) i.is (v.outs-Length i.of))))
    (c.value-in-Length.ensures k told)

pub value-returns-in-Unary : goal.value-returns-in-Unary
value-returns-in-Unary _ c =
    λ k told.
    let a = where_of c.args.at.now in
    let ls = c.args.locals.now in
    let e = c.args.e.now in
    let i = c.in-Unary in
    ok_as c.value-in-Unary.result _ _
    (ap (λ x. spec.value k a ls (plain x) c.args.links) c.get-in-Unary.ensures
    ∙ sym (ap (λ x. spec.value k a ls x c.args.links) (shaped e (v.Unary i.op i.of) (o.Unary i.op i.of) i.is (v.outs-Unary i.op i.of))))
    (c.value-in-Unary.ensures k told)

pub value-returns-in-Step : goal.value-returns-in-Step
value-returns-in-Step _ c =
    λ k told.
    let a = where_of c.args.at.now in
    let ls = c.args.locals.now in
    let e = c.args.e.now in
    let i = c.in-Step in
    ok_as c.value-in-Step.result _ _
    (ap (λ x. spec.value k a ls (plain x) c.args.links) c.get-in-Step.ensures
    ∙ sym (ap (λ x. spec.value k a ls x c.args.links) (shaped e (v.Step i.up i.before i.of) (o.Step i.up i.before i.of) i.is (v.outs-Step i.up i.before i.of))))
    (c.value-in-Step.ensures k told)

pub value-returns-in-InstanceOf : goal.value-returns-in-InstanceOf
value-returns-in-InstanceOf _ c =
    λ k told.
    let a = where_of c.args.at.now in
    let ls = c.args.locals.now in
    let e = c.args.e.now in
    let i = c.in-InstanceOf in
    ok_as c.value-in-InstanceOf.result _ _
    (ap (λ x. spec.value k a ls (plain x) c.args.links) c.get-in-InstanceOf.ensures
    ∙ sym (ap (λ x. spec.value k a ls x c.args.links) (shaped e (v.InstanceOf i.of i.written) (o.InstanceOf i.of i.written) i.is (v.outs-InstanceOf i.of i.written))))
    (c.value-in-InstanceOf.ensures k told)

pub value-returns-in_ok-links-in-NewFilled : goal.value-returns-in_ok-links-in-NewFilled
value-returns-in_ok-links-in-NewFilled _ c =
    λ k told.
    let a = where_of c.args.at.now in
    let ls = c.args.locals.now in
    let e = c.args.e.now in
    let i = c.in-NewFilled in
    ok_as c.initialise.result _ _
    (pair (λ x s. initialise k a ls (plain x) (Some e.ty) s) _ _ _ _ c.get-in-NewFilled-2.ensures (c.in_ok-links-in-NewFilled.ensures k told ∙ ap (λ x. spec.value k a ls (plain x) c.args.links) c.get-in-NewFilled.ensures)
    ∙ sym (ap (λ x. spec.value k a ls x c.args.links) (shaped e (v.NewFilled i.written i.items) (o.NewFilled i.written i.items) i.is (v.outs-NewFilled i.written i.items))))
    (c.initialise.ensures k told)

pub value-returns-in-Filled : goal.value-returns-in-Filled
value-returns-in-Filled _ c =
    λ k told.
    let a = where_of c.args.at.now in
    let ls = c.args.locals.now in
    let e = c.args.e.now in
    let i = c.in-Filled in
    ok_as c.values.result _ _
    (ap (λ xs. spec.values k a ls (plains xs) c.args.links) c.as_slice.ensures
    ∙ sym (ap (λ x. spec.value k a ls x c.args.links) (shaped e (v.Filled i.xs) (o.Filled i.xs) i.is (v.outs-Filled i.xs))))
    (c.values.ensures k told)

pub value-returns-in_ok-links-in-Cast : goal.value-returns-in_ok-links-in-Cast
value-returns-in_ok-links-in-Cast _ c =
    λ k told.
    let a = where_of c.args.at.now in
    let ls = c.args.locals.now in
    let e = c.args.e.now in
    let i = c.in-Cast in
    ok_as c.converted.result _ _
    (pair (λ x s. spec.converted k a ls e.node.id (written i.written) (plain x) s) _ _ _ _ c.get-in-Cast-2.ensures (c.in_ok-links-in-Cast.ensures k told ∙ ap (λ x. spec.value k a ls (plain x) c.args.links) c.get-in-Cast.ensures)
    ∙ sym (ap (λ x. spec.value k a ls x c.args.links) (shaped e (v.Cast i.written i.close i.of) (o.Cast i.written i.close i.of) i.is (v.outs-Cast i.written i.close i.of))))
    (c.converted.ensures k told)

pub value-returns-in_ok-links-in-Field : goal.value-returns-in_ok-links-in-Field
value-returns-in_ok-links-in-Field _ c =
    λ k told.
    let a = where_of c.args.at.now in
    let ls = c.args.locals.now in
    let e = c.args.e.now in
    let i = c.in-Field in
    ok_as c.field_use.result _ _
    (pair (λ x s. field_use k a ls (plain x) e.node.id s) _ _ _ _ c.get-in-Field-2.ensures (c.in_ok-links-in-Field.ensures k told ∙ ap (λ x. spec.value k a ls (plain x) c.args.links) c.get-in-Field.ensures)
    ∙ sym (ap (λ x. spec.value k a ls x c.args.links) (shaped e (v.Field i.of i.simple i.field) (o.Field i.of i.simple i.field) i.is (v.outs-Field i.of i.simple i.field))))
    (c.field_use.ensures k told)

pub value-returns-in_ok-links-in-StaticField : goal.value-returns-in_ok-links-in-StaticField
value-returns-in_ok-links-in-StaticField _ c =
    λ k told.
    let a = where_of c.args.at.now in
    let ls = c.args.locals.now in
    let e = c.args.e.now in
    let i = c.in-StaticField in
    ok_as c.maybe_field_use.result _ _
    (ap (maybe_field_use k a ls (maybe (option_map plain i.of)) e.node.id) (c.in_ok-links-in-StaticField.ensures k told)
    ∙ static_field k a ls e i.before i.of i.field c.args.links
    ∙ sym (ap (λ x. spec.value k a ls x c.args.links) (shaped e (v.StaticField i.before i.of i.field) (o.StaticField i.before i.of i.field) i.is (v.outs-StaticField i.before i.of i.field))))
    (c.maybe_field_use.ensures k told)

pub value-returns-in_ok-links-in-Index : goal.value-returns-in_ok-links-in-Index
value-returns-in_ok-links-in-Index _ c =
    λ k told.
    let a = where_of c.args.at.now in
    let ls = c.args.locals.now in
    let e = c.args.e.now in
    let i = c.in-Index in
    ok_as c.value-in-Index-2.result _ _
    (pair (λ x s. spec.value k a ls (plain x) s) _ _ _ _ c.get-in-Index-2.ensures (c.in_ok-links-in-Index.ensures k told ∙ ap (λ x. spec.value k a ls (plain x) c.args.links) c.get-in-Index.ensures)
    ∙ sym (ap (λ x. spec.value k a ls x c.args.links) (shaped e (v.Index i.of i.index) (o.Index i.of i.index) i.is (v.outs-Index i.of i.index))))
    (c.value-in-Index-2.ensures k told)

pub value-returns-in_ok-links-in-Logic : goal.value-returns-in_ok-links-in-Logic
value-returns-in_ok-links-in-Logic _ c =
    λ k told.
    let a = where_of c.args.at.now in
    let ls = c.args.locals.now in
    let e = c.args.e.now in
    let i = c.in-Logic in
    ok_as c.value-in-Logic-2.result _ _
    (pair (λ x s. spec.value k a ls (plain x) s) _ _ _ _ c.get-in-Logic-2.ensures (c.in_ok-links-in-Logic.ensures k told ∙ ap (λ x. spec.value k a ls (plain x) c.args.links) c.get-in-Logic.ensures)
    ∙ sym (ap (λ x. spec.value k a ls x c.args.links) (shaped e (v.Logic i.both i.left i.right) (o.Logic i.both i.left i.right) i.is (v.outs-Logic i.both i.left i.right))))
    (c.value-in-Logic-2.ensures k told)

pub value-returns-in_ok-links-in-Binary : goal.value-returns-in_ok-links-in-Binary
value-returns-in_ok-links-in-Binary _ c =
    λ k told.
    let a = where_of c.args.at.now in
    let ls = c.args.locals.now in
    let e = c.args.e.now in
    let i = c.in-Binary in
    ok_as c.value-in-Binary-2.result _ _
    (pair (λ x s. spec.value k a ls (plain x) s) _ _ _ _ c.get-in-Binary-2.ensures (c.in_ok-links-in-Binary.ensures k told ∙ ap (λ x. spec.value k a ls (plain x) c.args.links) c.get-in-Binary.ensures)
    ∙ sym (ap (λ x. spec.value k a ls x c.args.links) (shaped e (v.Binary i.op i.kind i.left i.right) (o.Binary i.op i.kind i.left i.right) i.is (v.outs-Binary i.op i.kind i.left i.right))))
    (c.value-in-Binary-2.ensures k told)

pub value-returns-in_ok-links-in-Compound : goal.value-returns-in_ok-links-in-Compound
value-returns-in_ok-links-in-Compound _ c =
    λ k told.
    let a = where_of c.args.at.now in
    let ls = c.args.locals.now in
    let e = c.args.e.now in
    let i = c.in-Compound in
    ok_as c.value-in-Compound-2.result _ _
    (pair (λ x s. spec.value k a ls (plain x) s) _ _ _ _ c.get-in-Compound-2.ensures (c.in_ok-links-in-Compound.ensures k told ∙ ap (λ x. spec.value k a ls (plain x) c.args.links) c.get-in-Compound.ensures)
    ∙ sym (ap (λ x. spec.value k a ls x c.args.links) (shaped e (v.Compound i.op i.kind i.to i.from) (o.Compound i.op i.kind i.to i.from) i.is (v.outs-Compound i.op i.kind i.to i.from))))
    (c.value-in-Compound-2.ensures k told)

pub value-returns-in_ok-links-in-Assign-2 : goal.value-returns-in_ok-links-in-Assign-2
value-returns-in_ok-links-in-Assign-2 _ c =
    λ k told.
    let a = where_of c.args.at.now in
    let ls = c.args.locals.now in
    let e = c.args.e.now in
    let i = c.in-Assign in
    ok_as c.assigned.result _ _
    (three (λ x y s. spec.assigned k a ls (plain x) (plain y) s) _ _ _ _ _ _ c.get-in-Assign-3.ensures c.get-in-Assign-4.ensures (c.in_ok-links-in-Assign-2.ensures k told ∙ pair (λ x s. spec.value k a ls (plain x) s) _ _ _ _ c.get-in-Assign-2.ensures (c.in_ok-links-in-Assign.ensures k told ∙ ap (λ x. spec.value k a ls (plain x) c.args.links) c.get-in-Assign.ensures))
    ∙ sym (ap (λ x. spec.value k a ls x c.args.links) (shaped e (v.Assign i.to i.from) (o.Assign i.to i.from) i.is (v.outs-Assign i.to i.from))))
    (c.assigned.ensures k told)

pub value-returns-in_ok-links-in-Cond-3 : goal.value-returns-in_ok-links-in-Cond-3
value-returns-in_ok-links-in-Cond-3 _ c =
    λ k told.
    let a = where_of c.args.at.now in
    let ls = c.args.locals.now in
    let e = c.args.e.now in
    let i = c.in-Cond in
    ok_as c.arms.result _ _
    (ap (λ w. arms k a ls w (plain c.get-in-Cond-4.result.now) (plain c.get-in-Cond-5.result.now) c.in_ok-links-in-Cond-3.links) (shaped e (v.Cond i.test i.yes i.no) (o.Cond i.test i.yes i.no) i.is (v.outs-Cond i.test i.yes i.no))
    ∙ three (λ x y s. arms k a ls (p.At e.node e.ty (level (o.Cond i.test i.yes i.no))) (plain x) (plain y) s) _ _ _ _ _ _ c.get-in-Cond-4.ensures c.get-in-Cond-5.ensures (c.in_ok-links-in-Cond-3.ensures k told ∙ pair (λ x s. spec.value k a ls (plain x) s) _ _ _ _ c.get-in-Cond-3.ensures (c.in_ok-links-in-Cond-2.ensures k told ∙ pair (λ x s. spec.value k a ls (plain x) s) _ _ _ _ c.get-in-Cond-2.ensures (c.in_ok-links-in-Cond.ensures k told ∙ ap (λ x. spec.value k a ls (plain x) c.args.links) c.get-in-Cond.ensures)))
    ∙ sym (ap (λ x. spec.value k a ls x c.args.links) (shaped e (v.Cond i.test i.yes i.no) (o.Cond i.test i.yes i.no) i.is (v.outs-Cond i.test i.yes i.no))))
    (c.arms.ensures k told)

pub value-returns-in_ok-links-in-Call-2 : goal.value-returns-in_ok-links-in-Call-2
value-returns-in_ok-links-in-Call-2 _ c =
    λ k told.
    let a = where_of c.args.at.now in
    let ls = c.args.locals.now in
    let e = c.args.e.now in
    let i = c.in-Call in
    ok_as c.value_call.result _ _
    (three (λ x xs s. calls.value_call k a ls e.node.id (plain x) i.simple i.method (plains xs) s) _ _ _ _ _ _ c.get-in-Call-2.ensures c.as_slice-args.ensures (c.in_ok-links-in-Call-2.ensures k told ∙ pair (λ xs s. spec.values k a ls (plains xs) s) _ _ _ _ c.as_slice-args.ensures (c.in_ok-links-in-Call.ensures k told ∙ ap (λ x. spec.value k a ls (plain x) c.args.links) c.get-in-Call.ensures))
    ∙ sym (ap (λ x. spec.value k a ls x c.args.links) (shaped e (v.Call i.of i.simple i.method i.args) (o.Call i.of i.simple i.method i.args) i.is (v.outs-Call i.of i.simple i.method i.args))))
    (c.value_call.ensures k told)

pub value-returns-in_ok-links-in-SuperCall : goal.value-returns-in_ok-links-in-SuperCall
value-returns-in_ok-links-in-SuperCall _ c =
    λ k told.
    let a = where_of c.args.at.now in
    let ls = c.args.locals.now in
    let e = c.args.e.now in
    let i = c.in-SuperCall in
    ok_as c.super_call.result _ _
    (pair (λ xs s. calls.super_call k a ls e.node.id i.method (plains xs) s) _ _ _ _ c.as_slice-args-in-SuperCall.ensures (c.in_ok-links-in-SuperCall.ensures k told ∙ ap (λ xs. spec.values k a ls (plains xs) c.args.links) c.as_slice-args-in-SuperCall.ensures)
    ∙ sym (ap (λ x. spec.value k a ls x c.args.links) (shaped e (v.SuperCall i.method i.args) (o.SuperCall i.method i.args) i.is (v.outs-SuperCall i.method i.args))))
    (c.super_call.ensures k told)

pub value-returns-in_ok-links-in-StaticCall-2 : goal.value-returns-in_ok-links-in-StaticCall-2
value-returns-in_ok-links-in-StaticCall-2 _ c =
    λ k told.
    let a = where_of c.args.at.now in
    let ls = c.args.locals.now in
    let e = c.args.e.now in
    let i = c.in-StaticCall in
    ok_as c.static_call.result _ _
    (pair (λ xs s. calls.static_call k a ls e.node.id i.before (maybe (option_map plain i.of)) i.method (plains xs) s) _ _ _ _ c.as_slice-args-in-StaticCall.ensures (c.in_ok-links-in-StaticCall-2.ensures k told ∙ pair (λ xs s. spec.values k a ls (plains xs) s) _ _ _ _ c.as_slice-args-in-StaticCall.ensures (c.in_ok-links-in-StaticCall.ensures k told))
    ∙ static_call k a ls e i.before i.of i.method i.args c.args.links
    ∙ sym (ap (λ x. spec.value k a ls x c.args.links) (shaped e (v.StaticCall i.before i.of i.method i.args) (o.StaticCall i.before i.of i.method i.args) i.is (v.outs-StaticCall i.before i.of i.method i.args))))
    (c.static_call.ensures k told)

pub value-returns-in_ok-links-in-New : goal.value-returns-in_ok-links-in-New
value-returns-in_ok-links-in-New _ c =
    λ k told.
    let a = where_of c.args.at.now in
    let ls = c.args.locals.now in
    let e = c.args.e.now in
    let i = c.in-New in
    ok_as c.created.result _ _
    (pair (λ xs s. calls.call k a ls e.node.id (marked_inside (class_of a) (written i.written)) e.ty false i.constructor (plains xs) s) _ _ _ _ c.as_slice-args-in-New.ensures (c.in_ok-links-in-New.ensures k told ∙ ap (λ xs. spec.values k a ls (plains xs) c.args.links) c.as_slice-args-in-New.ensures)
    ∙ sym (ap (λ x. spec.value k a ls x c.args.links) (shaped e (v.New i.written i.constructor i.args) (o.New i.written i.constructor i.args) i.is (v.outs-New i.written i.constructor i.args))))
    (c.created.ensures k told)

pub value-returns-in-NewArray : goal.value-returns-in-NewArray
value-returns-in-NewArray _ c =
    λ k told.
    let a = where_of c.args.at.now in
    let ls = c.args.locals.now in
    let e = c.args.e.now in
    let i = c.in-NewArray in
    ok_as c.values-in-NewArray.result _ _
    (ap (λ xs. spec.values k a ls (plains xs) c.args.links) c.as_slice-in-NewArray.ensures
    ∙ sym (ap (λ x. spec.value k a ls x c.args.links) (shaped e (v.NewArray i.written i.sizes) (o.NewArray i.written i.sizes) i.is (v.outs-NewArray i.written i.sizes))))
    (c.values-in-NewArray.ensures k told)

pub value-returns-in-Int : goal.value-returns-in-Int
value-returns-in-Int _ c =
    λ k told. leaf k (where_of c.args.at.now) c.args.locals.now c.args.e.now c.args.links c.in-Int.is

pub maybe_value-returns-in-Some : goal.maybe_value-returns-in-Some
maybe_value-returns-in-Some _ c =
    λ k told.
    let a = where_of c.args.at.now in
    let ls = c.args.locals.now in
    ok_as c.value.result _ _
    (ap (λ x. spec.value k a ls (plain x) c.args.links) c.get.ensures ∙ sym (ap (λ o. spec.maybe_value k a ls (maybe (option_map plain o)) c.args.links) c.in-Some.is))
    (c.value.ensures k told)

pub values-loop-x-preserved : goal.values-loop-x-preserved
values-loop-x-preserved _ c =
    λ k told.
    let a = where_of c.args.at.now in
    let ls = c.args.locals.now in
    step (λ xs s. spec.values k a ls (plains xs) s) (λ x s. spec.value k a ls (plain x) s) (λ x xs s. refl)
    c.args.xs.now c.loop-x.x-index c.x-item.result c.loop-x.links c.in_ok-links.links _ c.loop-x-test.true c.x-item.is
    (c.in_ok-links.ensures k told) (c.loop-x.invariant k told)

pub values-returns : goal.values-returns
values-returns _ c =
    λ k told.
    ended (λ xs s. spec.values k (where_of c.args.at.now) c.args.locals.now (plains xs) s) (λ s. refl) c.args.xs.now c.loop-x.x-index c.loop-x.links _ c.loop-x-test.false (c.loop-x.invariant k told)

pub values-value-requires : goal.values-value-requires
values-value-requires _ c =
    (rw (← c.decreases) (lower (λ x. height (plain x)) (λ xs. heights (plains xs)) (λ x xs. refl) c.args.xs.now c.loop-x.x-index c.x-item.result c.loop-x-test.true c.x-item.is), c.requires)

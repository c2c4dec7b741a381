use Rattle.std.proofs.Common.{sym, ap, ◌∙◌}
use Rattle.java_core.specs.declared.expr.CoreForm.TheVariants as v
use Rattle.java_core.specs.declared.expr.CoreForm.TheOpen as o
use Rattle.java_core.specs.Plain as p
use Rattle.java_core.specs.View.{plain}
use Rattle.type_kinds.specs.Kinds.{element}
use Rattle.marked_types.specs.Read as spec
use Rattle.marked_types.proofs.Forms.{ok_as, pair, shaped}
use Rattle.marked_types.proofs.reading.+read.Goals as goal

pub read-returns-in_ok-receiver-in-Field : goal.read-returns-in_ok-receiver-in-Field
read-returns-in_ok-receiver-in-Field _ c =
    λ f are.
    let at = spec.reading_of c.args.at.now in
    let ls = c.args.locals.now in
    let e = c.args.e.now in
    let i = c.in-Field in
    ok_as c.field_of.result _ _
    (ap (λ t. spec.field_of f at t i.field e.ty) (c.in_ok-receiver-in-Field.ensures f are ∙ ap (λ x. spec.read f at ls (plain x)) c.get-in-Field.ensures)
    ∙ sym (ap (spec.read f at ls) (shaped e (v.Field i.of i.simple i.field) (o.Field i.of i.simple i.field) i.is (v.outs-Field i.of i.simple i.field))))
    (c.field_of.ensures f are)

pub read-returns-in_ok-array-in-Index : goal.read-returns-in_ok-array-in-Index
read-returns-in_ok-array-in-Index _ c =
    λ f are.
    let at = spec.reading_of c.args.at.now in
    let ls = c.args.locals.now in
    let e = c.args.e.now in
    let i = c.in-Index in
    ok_as c.or_own-in-Index.result _ _
    (ap (λ t. spec.or_own t e.ty) (c.element.ensures ∙ ap element (c.in_ok-array-in-Index.ensures f are ∙ ap (λ x. spec.read f at ls (plain x)) c.get-in-Index.ensures))
    ∙ sym (ap (spec.read f at ls) (shaped e (v.Index i.of i.at) (o.Index i.of i.at) i.is (v.outs-Index i.of i.at))))
    c.or_own-in-Index.ensures

pub read-returns-in_ok-receiver-in-Call : goal.read-returns-in_ok-receiver-in-Call
read-returns-in_ok-receiver-in-Call _ c =
    λ f are.
    let at = spec.reading_of c.args.at.now in
    let ls = c.args.locals.now in
    let e = c.args.e.now in
    let i = c.in-Call in
    ok_as c.result_of.result _ _
    (ap (λ t. spec.result_of f at t i.method e.ty) (c.in_ok-receiver-in-Call.ensures f are ∙ ap (λ x. spec.read f at ls (plain x)) c.get-in-Call.ensures)
    ∙ sym (ap (spec.read f at ls) (shaped e (v.Call i.of i.simple i.method i.args) (o.Call i.of i.simple i.method i.args) i.is (v.outs-Call i.of i.simple i.method i.args))))
    (c.result_of.ensures f are)

pub read-returns-in-Cond : goal.read-returns-in-Cond
read-returns-in-Cond _ c =
    λ f are.
    let at = spec.reading_of c.args.at.now in
    let ls = c.args.locals.now in
    let e = c.args.e.now in
    let i = c.in-Cond in
    ok_as c.conditional.result _ _
    (pair (λ y z. spec.read f at ls (p.At e.node e.ty (p.Cond (plain i.test) (plain y) (plain z)))) _ _ _ _ c.get-in-Cond.ensures c.get-in-Cond-2.ensures
    ∙ sym (ap (spec.read f at ls) (shaped e (v.Cond i.test i.yes i.no) (o.Cond i.test i.yes i.no) i.is (v.outs-Cond i.test i.yes i.no))))
    (c.conditional.ensures f are)

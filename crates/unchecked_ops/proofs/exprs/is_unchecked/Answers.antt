use Rattle.std.proofs.Common.{ap, sym, ◌∙◌}
use Rattle.java_core.specs.declared.expr.CoreExpr.{CoreExpr}
use Rattle.java_core.specs.declared.expr.CoreForm.TheVariants as v
use Rattle.java_core.specs.declared.expr.CoreForm.TheOpen as open_form
use Rattle.java_core.specs.View.{plain}
use Rattle.java_core.proofs.Views.{plain_at}
use Rattle.type_kinds.specs.Kinds.{ty_of}
use Rattle.type_kinds.specs.Members.{method_at}
use Rattle.unchecked_ops.specs.Raw.{is_raw_call, sets_raw}
use Rattle.unchecked_ops.specs.Operations as spec
use Rattle.unchecked_ops.proofs.Forms.{formed}
use Rattle.unchecked_ops.proofs.Oks.{ok_as}
use Rattle.unchecked_ops.proofs.exprs.is_unchecked.Goals as goal

pub returns-in-Call : goal.returns-in-Call
returns-in-Call c =
    λ f d u m.
    let i = c.in-Call in
    let k = method_at f.world i.method in
    ok_as c.is_raw_call.result _ _
    (ap (λ (x : CoreExpr). is_raw_call f x.ty k) c.get.ensures ∙ sym (ap (λ y. is_raw_call f (ty_of y) k) (plain_at i.of))
    ∙ sym (ap (spec.is_unchecked f u c.args.ty.now)
    (formed c.args.form.now (v.Call i.of i.simple i.method i.args) (open_form.Call i.of i.simple i.method i.args) i.is (v.outs-Call i.of i.simple i.method i.args))))
    (c.is_raw_call.ensures f d)

pub returns-in-Assign : goal.returns-in-Assign
returns-in-Assign c =
    λ f d u m.
    let i = c.in-Assign in
    ok_as c.sets_raw.result _ _
    (ap (λ x. sets_raw f (plain x)) c.get-in-Assign.ensures
    ∙ sym (ap (spec.is_unchecked f u c.args.ty.now) (formed c.args.form.now (v.Assign i.to i.from) (open_form.Assign i.to i.from) i.is (v.outs-Assign i.to i.from))))
    (c.sets_raw.ensures f d)

pub returns-in-Compound : goal.returns-in-Compound
returns-in-Compound c =
    λ f d u m.
    let i = c.in-Compound in
    ok_as c.sets_raw-in-Compound.result _ _
    (ap (λ x. sets_raw f (plain x)) c.get-in-Compound.ensures
    ∙ sym (ap (spec.is_unchecked f u c.args.ty.now)
    (formed c.args.form.now (v.Compound i.op i.kind i.to i.from) (open_form.Compound i.op i.kind i.to i.from) i.is (v.outs-Compound i.op i.kind i.to i.from))))
    (c.sets_raw-in-Compound.ensures f d)

pub returns-in-New : goal.returns-in-New
returns-in-New c =
    λ f d u m.
    let i = c.in-New in
    ok_as c.is_raw_call-in-New.result _ _
    (sym (ap (spec.is_unchecked f u c.args.ty.now) (formed c.args.form.now (v.New i.written i.constructor i.args) (open_form.New i.written i.constructor i.args) i.is (v.outs-New i.written i.constructor i.args))))
    (c.is_raw_call-in-New.ensures f d)

use Rattle.std.proofs.Common.{ap, sym, ◌∙◌}
use Rattle.java_core.specs.declared.expr.CoreForm.TheVariants as v
use Rattle.java_core.specs.declared.expr.CoreForm.TheOpen as o
use Rattle.java_core.specs.View.{plain}
use Rattle.type_kinds.specs.Kinds.{ty_of}
use Rattle.thrown_exceptions.proofs.Forms.{shaped, ty_at}
use Rattle.thrown_exceptions.proofs.Steps.{ok_as, pair}
use Rattle.type_constraints.specs.Asked.{asked}
use Rattle.type_constraints.specs.Changed as spec
use Rattle.type_constraints.proofs.changed.+changed.Goals as goal

pub changed-returns-in-Paren : goal.changed-returns-in-Paren
changed-returns-in-Paren _ c =
    λ f are t ties.
    let a = asked c.args.at.now f t in
    let i = c.in-Paren in
    ok_as c.changed.result _ _
    (ap (λ x. spec.changed a (plain x)) c.get.ensures
    ∙ sym (ap (spec.changed a) (shaped c.args.e.now (v.Paren i.of) (o.Paren i.of) i.is (v.outs-Paren i.of))))
    (c.changed.ensures f are t ties)

pub changed-returns-in-Index : goal.changed-returns-in-Index
changed-returns-in-Index _ c =
    λ f are t ties.
    let a = asked c.args.at.now f t in
    let i = c.in-Index in
    ok_as c.changed-in-Index.result _ _
    (ap (λ x. spec.changed a (plain x)) c.get-in-Index.ensures
    ∙ sym (ap (spec.changed a) (shaped c.args.e.now (v.Index i.of i.at) (o.Index i.of i.at) i.is (v.outs-Index i.of i.at))))
    (c.changed-in-Index.ensures f are t ties)

pub changed-returns-in-Assign : goal.changed-returns-in-Assign
changed-returns-in-Assign _ c =
    λ f are t ties.
    let a = asked c.args.at.now f t in
    let i = c.in-Assign in
    ok_as c.changed-in-Assign.result _ _
    (ap (λ x. spec.changed a (plain x)) c.get-in-Assign.ensures
    ∙ sym (ap (spec.changed a) (shaped c.args.e.now (v.Assign i.to i.from) (o.Assign i.to i.from) i.is (v.outs-Assign i.to i.from))))
    (c.changed-in-Assign.ensures f are t ties)

pub changed-returns-in-Compound : goal.changed-returns-in-Compound
changed-returns-in-Compound _ c =
    λ f are t ties.
    let a = asked c.args.at.now f t in
    let i = c.in-Compound in
    ok_as c.changed-in-Compound.result _ _
    (ap (λ x. spec.changed a (plain x)) c.get-in-Compound.ensures
    ∙ sym (ap (spec.changed a) (shaped c.args.e.now (v.Compound i.op i.kind i.to i.from) (o.Compound i.op i.kind i.to i.from) i.is (v.outs-Compound i.op i.kind i.to i.from))))
    (c.changed-in-Compound.ensures f are t ties)

pub changed-returns-in-Cond : goal.changed-returns-in-Cond
changed-returns-in-Cond _ c =
    λ f are t ties.
    let a = asked c.args.at.now f t in
    let i = c.in-Cond in
    ok_as c.arms.result _ _
    (pair (λ y z. spec.leads_on a (spec.changed a (plain y)) (spec.changed a (plain z)) (ty_of (plain y)) (ty_of (plain z))) _ _ _ _ c.get-in-Cond.ensures c.get-in-Cond-2.ensures
    ∙ sym (ap (spec.changed a) (shaped c.args.e.now (v.Cond i.test i.yes i.no) (o.Cond i.test i.yes i.no) i.is (v.outs-Cond i.test i.yes i.no))))
    (c.arms.ensures f are t ties)

pub arms-returns : goal.arms-returns
arms-returns _ c =
    λ f are t ties.
    let a = asked c.args.at.now f t in
    ok_as c.leads_on.result _ _
    (pair (λ b d. spec.leads_on a b d c.args.yes.now.ty c.args.no.now.ty) _ _ _ _ (c.in_ok-first.ensures f are t ties) (c.in_ok-second.ensures f are t ties)
    ∙ pair (λ u v. spec.leads_on a (spec.changed a (plain c.args.yes.now)) (spec.changed a (plain c.args.no.now)) u v) _ _ _ _ (ty_at c.args.yes.now) (ty_at c.args.no.now))
    (c.leads_on.ensures f are t ties)

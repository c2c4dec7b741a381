use Rattle.std.proofs.Common.{ap, sym, ◌∙◌}
use Rattle.java_core.specs.declared.expr.CoreExpr.{CoreExpr}
use Rattle.java_core.specs.declared.expr.CoreForm.TheVariants as v
use Rattle.java_core.specs.declared.expr.CoreForm.TheOpen as open_form
use Rattle.java_core.specs.View.{plain}
use Rattle.java_core.proofs.Views.{plain_at}
use Rattle.type_kinds.specs.Kinds.{ty_of}
use Rattle.type_kinds.specs.Members.{field_at}
use Rattle.unchecked_ops.specs.Raw as spec
use Rattle.unchecked_ops.proofs.Forms.{shaped}
use Rattle.unchecked_ops.proofs.Oks.{ok_as}
use Rattle.unchecked_ops.proofs.raw.+sets_raw.Goals as goal

pub returns-in-Field : goal.returns-in-Field
returns-in-Field t c =
    λ f d.
    let i = c.in-Field in
    let k = field_at f.world i.field in
    ok_as c.is_raw_field.result _ _
    (ap (λ (x : CoreExpr). spec.is_raw_field f x.ty k) c.get.ensures ∙ sym (ap (λ y. spec.is_raw_field f (ty_of y) k) (plain_at i.of))
    ∙ sym (ap (spec.sets_raw f) (shaped c.args.e.now (v.Field i.of i.simple i.field) (open_form.Field i.of i.simple i.field) i.is (v.outs-Field i.of i.simple i.field))))
    (c.is_raw_field.ensures f d)

pub returns-in-Paren : goal.returns-in-Paren
returns-in-Paren t c =
    λ f d.
    let i = c.in-Paren in
    ok_as c.sets_raw.result _ _
    (ap (λ x. spec.sets_raw f (plain x)) c.get-in-Paren.ensures ∙ sym (ap (spec.sets_raw f) (shaped c.args.e.now (v.Paren i.of) (open_form.Paren i.of) i.is (v.outs-Paren i.of))))
    (c.sets_raw.ensures f d)

pub returns-in-Implied : goal.returns-in-Implied
returns-in-Implied t c =
    λ f d.
    let i = c.in-Implied in
    ok_as c.sets_raw-in-Implied.result _ _
    (ap (λ x. spec.sets_raw f (plain x)) c.get-in-Implied.ensures ∙ sym (ap (spec.sets_raw f) (shaped c.args.e.now (v.Implied i.of) (open_form.Implied i.of) i.is (v.outs-Implied i.of))))
    (c.sets_raw-in-Implied.ensures f d)

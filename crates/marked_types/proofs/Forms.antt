-- Forms of expressions, read by their parts.
use Rattle.std.proofs.Common.{◌≡◌, Result, Ok, Err, ap, ◌∙◌}
use Rattle.std.specs.Prelude.{IfOk}
use Rattle.java_core.specs.declared.expr.CoreExpr.{CoreExpr}
use Rattle.java_core.specs.declared.expr.CoreForm.{CoreForm, out-CoreForm}
use Rattle.java_core.specs.declared.expr.CoreForm.TheOpen as f
use Rattle.java_core.specs.declared.expr.CoreForm.TheFolds.{map-CoreForm}
use Rattle.java_core.specs.Plain as p
use Rattle.java_core.specs.View.{at_form, form_plain, plain}
use Rattle.java_core.proofs.Views.{form_out, plain_at}

abbrev pub level : f.CoreForm-F CoreForm CoreExpr → p.Form
level L = at_form (map-CoreForm CoreForm CoreExpr p.Form p.Expr form_plain plain L)

-- x is a form whose parts L has
pub formed : (x y : CoreForm) (L : f.CoreForm-F CoreForm CoreExpr) → x ≡ y → out-CoreForm y ≡ L → form_plain x ≡ level L
formed x y L is e = ap form_plain is ∙ form_out y ∙ ap level e

pub shaped : (e : CoreExpr) (y : CoreForm) (L : f.CoreForm-F CoreForm CoreExpr) → e.form ≡ y → out-CoreForm y ≡ L → plain e ≡ p.At e.node e.ty (level L)
shaped e y L is o = plain_at e ∙ ap (p.At e.node e.ty) (formed e.form y L is o)

pub ok_as : {A E : Type 0} (r : Result A E) (a b : A) → a ≡ b → IfOk r (λ x. x ≡ a) → IfOk r (λ x. x ≡ b)
ok_as (Ok x) a b e h = h ∙ e
ok_as (Err x) a b e h = h

pub pair : {X Y Z : Type 0} (g : X → Y → Z) (x x' : X) (y y' : Y) → x ≡ x' → y ≡ y' → g x y ≡ g x' y'
pair g x x' y y' h k = ap (λ x. g x y) h ∙ ap (g x') k

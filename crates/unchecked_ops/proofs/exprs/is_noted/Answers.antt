use Rattle.std.proofs.Common.{◌≡◌, Bool, true, false, refl, sym, ◌∙◌}
use Rattle.std.specs.Prelude.{◌&&◌, ◌||◌, not}
use Rattle.java_core.specs.View.{form_plain}
use Rattle.unchecked_ops.specs.Operations as spec
use Rattle.unchecked_ops.proofs.Oks.{ok_as}
use Rattle.unchecked_ops.proofs.exprs.is_noted.Goals as goal

noted : (conversion here x : Bool) → conversion ≡ false → here ≡ false → x ≡ (not conversion && (here || x))
noted false false x h k = refl
noted false true x h k = absurd (cc k)
noted true here x h k = absurd (cc h)

pub returns : goal.returns
returns c =
    λ f d u m. ok_as c.is_unchecked.result _ _
    (noted (spec.is_conversion (form_plain c.args.form.now)) c.args.here (spec.is_unchecked f u c.args.ty.now (form_plain c.args.form.now)) (sym c.is_conversion.ensures ∙ c.if-is_conversion.false) c.if-here.false)
    (c.is_unchecked.ensures f d u m)

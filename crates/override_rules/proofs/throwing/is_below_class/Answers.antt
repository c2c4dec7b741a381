use Rattle.std.proofs.Common.{refl, sym, subst, [], Bool, IsTrue, ◌↔◌}
use Rattle.class_world.specs.declared.world.JavaType.TheVariants as ty
use Rattle.class_world.specs.Types.{of_class}
use Rattle.class_world.specs.Subtypes.{Subtype, null}
use Rattle.override_rules.proofs.Judging.{super_told}
use Rattle.override_rules.proofs.throwing.is_below_class.Goals as goal

pub returns-in-Null : goal.returns-in-Null
returns-in-Null c = (λ e. subst (λ t. Subtype c.args.w.now t (ty.Class c.args.g [])) (sym c.in-Null.is) (null (of_class _ _)), λ h. refl)

pub returns-in_ok-super_as-in_default : goal.returns-in_ok-super_as-in_default
returns-in_ok-super_as-in_default c =
    subst (λ (b : Bool). IsTrue b ↔ Subtype c.args.w.now c.args.t.now (ty.Class c.args.g [])) (sym c.is_some.ensures)
    (super_told c.args.w.now c.args.t.now c.args.g c.in_ok-super_as-in_default.field-0 c.in_ok-super_as-in_default.ensures)

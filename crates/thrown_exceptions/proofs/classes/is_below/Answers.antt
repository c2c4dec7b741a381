use Rattle.std.proofs.Common.{◌↔◌, [], subst}
use Rattle.std.specs.Prelude.{IsTrue}
use Rattle.class_world.specs.Subtypes.{Subtype}
use Rattle.class_world.specs.declared.world.JavaType.TheVariants as ty
use Rattle.type_kinds.specs.OfWorld.{AreBoth}
use Rattle.thrown_exceptions.proofs.Tests.{same_test}
use Rattle.thrown_exceptions.proofs.classes.is_below.Goals as goal

pub returns : goal.returns
returns c =
    λ below is.
    let w = c.args.w.now in
    let sub = c.args.c in
    let above = c.args.d in
    let r = c.is_below.result in
    same_test r (below (ty.Class sub []) (ty.Class above [])) _
    (subst (λ xs. IsTrue r ↔ (AreBoth w (ty.Class sub []) (ty.Class above xs) × Subtype w (ty.Class sub []) (ty.Class above xs))) c.new-2.ensures
    (subst (λ xs. IsTrue r ↔ (AreBoth w (ty.Class sub xs) (ty.Class above c.new-2.result) × Subtype w (ty.Class sub xs) (ty.Class above c.new-2.result))) c.new.ensures c.is_below.ensures))
    (is (ty.Class sub []) (ty.Class above []))

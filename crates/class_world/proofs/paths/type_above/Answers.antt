use Rattle.std.proofs.Common.{sym, ap, subst}
use Rattle.class_world.specs.declared.world.JavaType.TheVariants as ty
use Rattle.class_world.specs.Subtypes.{Subtype}
use Rattle.class_world.specs.Meets.{IsFullType}
use Rattle.class_world.proofs.Meets.{bare_full}
use Rattle.class_world.proofs.paths.type_above.Goals as goal

pub returns-then-not-is_generic-clause-above : goal.returns-then-not-is_generic-clause-above
returns-then-not-is_generic-clause-above c =
    let w = c.args.w.now in
    let d = c.args.d.now in
    let has = c.leads.ensures c.if-not-leads.false c.args.to c.requires.at in
    let bare = bare_full w c.requires.supers d c.args.to (λ h. let never = c.is_generic.ensures.1 h in absurd (cc (never, c.if-not-is_generic.true))) has in
    let e = ap (ty.Class c.args.to) (sym c.new.ensures) in
    (subst (IsFullType w c.args.to) e bare.0, subst (Subtype w d) e bare.1)

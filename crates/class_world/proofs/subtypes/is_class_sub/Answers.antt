use Rattle.std.proofs.Common.{◌↔◌, IsTrue, refl, sym, subst}
use Rattle.class_world.specs.declared.world.JavaType.TheVariants as ty
use Rattle.class_world.specs.Subtypes.{Subtype}
use Rattle.class_world.specs.Climbs.{HasBase}
use Rattle.class_world.proofs.Frames.{seen_alike}
use Rattle.class_world.proofs.Decides as by
use Rattle.class_world.proofs.subtypes.is_class_sub.Goals as goal

pub is_climbed-requires-clause-above : goal.is_climbed-requires-clause-above
is_climbed-requires-clause-above c = (
  c.in-Class.g,
  (c.in-Class.others, c.in-Class.is, λ none. let never = c.if-is_empty.ensures.1 none in absurd (cc never)),
  subst (λ xs. HasBase c.args.w.now (ty.Class c.args.c xs) c.in-Class.g) (sym (seen_alike c.args.args.now)) ((c.if-has_base.ensures c.args.args.now (c.requires.class, c.is_raw.ensures)).0 refl),
)

pub returns-then-has_base : goal.returns-then-has_base
returns-then-has_base c = subst (λ xs. IsTrue c.is_climbed.result ↔ Subtype c.args.w.now (ty.Class c.args.c xs) c.args.t.now) (seen_alike c.args.args.now) c.is_climbed.ensures

pub returns-else-has_base : goal.returns-else-has_base
returns-else-has_base c = (
  λ h. absurd (cc (h, c.if-has_base.false)),
  λ up.
      let never = (c.if-has_base.ensures c.args.args.now (c.requires.class, c.is_raw.ensures)).1
      (c.args.t.now, (c.in-Class.others, c.in-Class.is, λ none. let never = c.if-is_empty.ensures.1 none in absurd (cc never)), up) in
      absurd (cc never),
)

pub returns-in_default : goal.returns-in_default
returns-in_default c = (λ h. absurd (cc h), λ h. absurd (by.above_class_not c.args.w.now c.requires.sound c.args.c c.args.args.now c.args.t.now c.requires.class c.in_default.not-Class h))

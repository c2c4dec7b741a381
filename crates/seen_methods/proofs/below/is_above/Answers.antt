use Rattle.std.proofs.Common.{sym, subst}
use Rattle.class_world.specs.Sound.{IsSet}
use Rattle.seen_methods.proofs.Tells.{above_told, none_above}
use Rattle.seen_methods.proofs.below.is_above.Goals as goal

pub returns-in-Some-get : goal.returns-in-Some-get
returns-in-Some-get c =
    let told = above_told c.args.w.now c.requires c.args.c c.args.g c.in-Some.field-0.now c.in-Some-get.row.now (sym c.in-Some.ensures.value) (sym c.in-Some-get.ensures.value) in (
      λ h. told.0 (subst (λ words. IsSet words c.args.g) c.as_slice.ensures (c.is_set.ensures.0 h)),
      λ h. c.is_set.ensures.1 (subst (λ words. IsSet words c.args.g) (sym c.as_slice.ensures) (told.1 h)),
    )

pub returns-in-None : goal.returns-in-None
returns-in-None c = (λ h. absurd (cc h), λ h. absurd (cc (h.1.1, c.in-None.ensures.value)))

pub returns-in-None-get : goal.returns-in-None-get
returns-in-None-get c =
    (λ h. absurd (cc h), λ h. absurd (none_above c.args.w.now c.requires c.args.c c.args.g c.in-Some.field-0.now (sym c.in-Some.ensures.value) (sym c.in-None-get.ensures.value) h))

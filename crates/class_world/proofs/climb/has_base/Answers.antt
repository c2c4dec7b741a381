use Rattle.std.proofs.Common.{refl, sym, ap, ◌∙◌, subst}
use Rattle.std.specs.Option.{option_copied}
use Rattle.class_world.specs.Sound.{IsSet}
use Rattle.class_world.proofs.Ways as by
use Rattle.class_world.proofs.climb.has_base.Goals as goal

pub returns-then-raw : goal.returns-then-raw
returns-then-raw c = λ args is.
    by.raw_told c.args.w.now c.requires c.is_set.result c.args.raw c.args.c c.args.g args c.in-Some.row.now c.as_slice.result.now c.if-raw.true is
    (sym c.get.ensures.value ∙ ap option_copied c.in-Some.is) c.as_slice.ensures c.is_set.ensures

pub returns-then-is_generic : goal.returns-then-is_generic
returns-then-is_generic c = λ args is.
    let told = by.full_told c.args.w.now c.requires c.args.c c.args.g args c.args.raw c.in-Some.row.now (λ h. absurd (cc (h, c.if-raw.false))) is
    (sym c.get.ensures.value ∙ ap option_copied c.in-Some.is) in (
      λ h. told.0 (c.if-is_generic.ensures.0 refl, subst (λ ws. IsSet ws c.args.g) c.as_slice-then-is_generic.ensures (c.is_set-then-is_generic.ensures.0 h)),
      λ h. c.is_set-then-is_generic.ensures.1 (subst (λ ws. IsSet ws c.args.g) (sym c.as_slice-then-is_generic.ensures) (told.1 h).1),
    )

pub returns-else-is_generic : goal.returns-else-is_generic
returns-else-is_generic c = λ args is.
    let told = by.full_told c.args.w.now c.requires c.args.c c.args.g args c.args.raw c.in-Some.row.now (λ h. absurd (cc (h, c.if-raw.false))) is
    (sym c.get.ensures.value ∙ ap option_copied c.in-Some.is) in (
      λ h. absurd (cc (h, c.if-is_generic.false)),
      λ h. let never = c.if-is_generic.ensures.1 (told.1 h).0 in absurd (cc never),
    )

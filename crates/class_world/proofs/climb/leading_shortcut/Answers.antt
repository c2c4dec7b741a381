use Rattle.class_world.proofs.Ways as by
use Rattle.class_world.proofs.climb.leading_shortcut.Goals as goal

pub returns-then-has_base : goal.returns-then-has_base
returns-then-has_base c =
    let w = c.args.w.now in
    let d = c.in_ok-d.d.now in (
      by.shortcut_way w c.requires c.args.c c.args.raw d c.in_ok-d.ensures (λ h. absurd (cc (h, c.if-raw.false))),
      by.shortcut_leads w c.requires c.args.c c.class_of.result c.args.g c.args.raw c.has_base.result d c.in_ok-d.ensures (λ h. absurd (cc (h, c.if-raw.false))) c.class_of.ensures c.has_base.ensures c.if-has_base.true,
    )

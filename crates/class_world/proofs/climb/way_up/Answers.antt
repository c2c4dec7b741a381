use Rattle.class_world.proofs.Ways as by
use Rattle.class_world.proofs.climb.way_up.Goals as goal

pub returns-in-None-clause-some : goal.returns-in-None-clause-some
returns-in-None-clause-some c =
    let w = c.args.w.now in
    by.on_some c.next_super.result (λ d h. (by.super_way w c.requires c.args.c c.args.raw d.now h.0, h.1)) c.next_super.ensures.some

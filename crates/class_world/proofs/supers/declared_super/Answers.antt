use Rattle.class_world.proofs.Climbs.{plain_super}
use Rattle.class_world.proofs.supers.declared_super.Goals as goal

pub returns-else-is_raw : goal.returns-else-is_raw
returns-else-is_raw c =
    plain_super c.args.w.now c.args.t.now c.args.d.now c.class_of.result c.args_of.result.now c.args_of-else-is_raw.result.now c.substituted.result c.requires c.class_of.ensures c.args_of.ensures
    c.args_of-else-is_raw.ensures (λ flat. let never = c.if-is_raw.ensures.1 flat in absurd (cc never)) c.substituted.ensures

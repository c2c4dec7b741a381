use Rattle.std.proofs.Common.{arith}
use Rattle.class_world.proofs.Weights.{lighter}
use Rattle.class_world.proofs.types.+copied.Goals as goal

pub all_copied-copied-requires : goal.all_copied-copied-requires
all_copied-copied-requires t c =
    let low = lighter c.args.xs.now c.loop-x.x-index c.x-item.result c.loop-x-test.true c.x-item.is in
    (rw (← c.decreases) (omega (arith, low)), tt)

use Rattle.std.proofs.Common.{below_more}
use Rattle.alike_order.specs.Supers.{KeepsSupers}
use Rattle.alike_order.proofs.supers.keep_all_supers.Goals as goal

pub loop-class-preserved : goal.loop-class-preserved
loop-class-preserved c =
    below_more (KeepsSupers c.args.old.now c.args.new.now c.args.types.now) c.loop-class.class c.loop-class.invariant (c.keeps_supers.ensures.0 c.if-not-keeps_supers.false)

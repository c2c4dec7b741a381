use Rattle.std.proofs.Common.{below_more}
use Rattle.alike_lookups.specs.Lookups.{FindsOn, sides}
use Rattle.alike_lookups.proofs.looks.finds_on_all.Goals as goal

pub loop-class-preserved : goal.loop-class-preserved
loop-class-preserved c =
    below_more (λ k. FindsOn (sides c.args.old.now c.args.new.now c.args.map.now c.args.strict) c.args.method c.args.other k) c.loop-class.class c.loop-class.invariant (c.finds_on.ensures c.if-not-finds_on.false)

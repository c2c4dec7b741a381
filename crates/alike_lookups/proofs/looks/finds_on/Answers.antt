use Rattle.std.proofs.Common.{subst}
use Rattle.class_world.specs.Overriding.{FoundIs}
use Rattle.alike_lookups.specs.Lookups.{sides}
use Rattle.alike_lookups.proofs.Alike.{looked_up}
use Rattle.alike_lookups.proofs.looks.finds_on.Goals as goal

pub returns : goal.returns
returns c h =
    let v = c.args.new.now.world.now in
    looked_up (sides c.args.old.now c.args.new.now c.args.map.now c.args.strict) c.args.method c.args.other c.args.class c.lookup-before.result c.lookup-after.result
    (c.lookup-before.ensures c.args.old.now.world.now c.requires.old.members)
    (subst (λ t. FoundIs v c.args.other t c.lookup-after.result) c.in-Some.ensures.some (c.lookup-after.ensures v c.requires.new.members))
    (c.is_led.ensures.0 h)

use Rattle.unchecked_ops.proofs.Bases.{led_some}
use Rattle.unchecked_ops.proofs.casting.is_led.Goals as goal

pub returns-then-holds : goal.returns-then-holds
returns-then-holds c =
    led_some c.is_put.result c.holds.result c.args.above.now c.args.form.now c.in-Some.above c.in-Some-form.form c.args.n c.args.args.now c.in-Some.is c.in-Some-form.is c.if-holds.true
    c.holds.ensures c.is_put.ensures
